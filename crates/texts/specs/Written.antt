-- Text put after what an output holds; two texts one after the other are their join.
use Rattle.std.specs.Prelude.{◌≡◌, refl, List, [], ◌∷◌, ◌++◌, ℕ, ◌+◌, ◌-◌, ◌≤◌, ◌<◌, length, set}
use Rattle.std.proofs.Common.{sym, ap, ap₂, ◌∙◌, arith, length-append}
use Rattle.lists.specs.Parts.{put, put_nil, put_one, put_join, put_swap, length_put, lent}
use borrow.Rule.Slice.PartMut.{put_mid}
use Rattle.texts.specs.declared.Output.{Output}

-- so many bytes more have room
abbrev pub Room : ℕ → Output → Type 0
Room n output = output.len + n ≤ length output.bytes.now

-- the text stands after what the output held, and the other bytes are as they were
pub record Wrote (text : List ℕ) (before after : Output) : Type 0 where
  pub fits : before.len + length text ≤ length before.bytes.now
  pub ends : after.len ≡ before.len + length text
  pub wrote : after.bytes.now ≡ put before.len text before.bytes.now
  -- the bytes are those that were lent
  pub lent : after.bytes.ghost_name ≡ before.bytes.ghost_name

-- one byte more at the end of what is still due
pub put_last : (a : ℕ) (v : List ℕ) (x : ℕ) (s : List ℕ) → a + length v < length s → put a (v ++ (x ∷ [])) s ≡ put a v (set s (a + length v) x)
put_last a v x s h =
    sym (put_join a v (x ∷ []) s (omega arith))
    ∙ put_swap a (a + length v) v (x ∷ []) s (omega arith) (omega arith)
    ∙ ap (put a v) (sym (put_one (a + length v) x s h))

-- nothing
pub wrote_none : {o : Output} → o.len ≤ length o.bytes.now → Wrote [] o o
wrote_none {o} h = record { fits = omega arith; ends = omega arith; wrote = sym (put_nil o.len o.bytes.now); lent = refl }

-- one text after the other
pub wrote_join : {v w : List ℕ} {a b c : Output} → Wrote v a b → Wrote w b c → Wrote (v ++ w) a c
wrote_join {v} {w} {a} {b} {c} p q =
    let l : length b.bytes.now ≡ length a.bytes.now = ap length p.wrote ∙ length_put a.len v a.bytes.now p.fits in
    let k = length-append v w in
    let h : a.len + (length v + length w) ≤ length a.bytes.now = omega (arith, p.ends, q.fits, l) in
    record {
      fits = omega (arith, h, k);
      ends = omega (arith, p.ends, q.ends, k);
      wrote = q.wrote ∙ ap₂ (λ i s. put i w s) p.ends p.wrote ∙ put_join a.len v w a.bytes.now h;
      lent = q.lent ∙ p.lent;
    }

-- the output's length, and that there is room for what is written
pub wrote_length : {v : List ℕ} {a b : Output} → Wrote v a b → length b.bytes.now ≡ length a.bytes.now
wrote_length {v} {a} p = ap length p.wrote ∙ length_put a.len v a.bytes.now p.fits

pub wrote_within : {v : List ℕ} {a b : Output} → Wrote v a b → b.len ≤ length b.bytes.now
wrote_within {v} {a} p = omega (arith, p.ends, p.fits, wrote_length p)

-- a part that was lent for a text, and has come back with it
pub wrote_part : (at : ℕ) (out : List ℕ) {text part : List ℕ} → part ≡ text → put_mid at ((at + length text) - at) out part ≡ put at text out
wrote_part at out {text} {part} e =
    let n : (at + length text) - at ≡ length text = omega arith in
    rw (e, n) (lent at (length text) out text refl)
