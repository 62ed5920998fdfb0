-- What the check leaves of `cut`.
use Rattle.std.proofs.Common.{◌≡◌, refl, ◌≤◌, ◌++◌, ◌+◌, ◌-◌, ℕ, List, length, take, drop, sym, ap, ◌∙◌, subst, arith, length-append, length-drop, length-take-le}
use Rattle.paper.specs.Lines.{line_of}
use borrow.Rule.Slice.PartMut.{put_mid}
use Rattle.lists.specs.Parts.{put, lent}
use Rattle.lines.specs.Reading.{Judged, turned_line, turned_long, turned_over, carried_take}
use Rattle.lines.proofs.Reader.cut.Goals as goal

-- the bytes that the chunk has of the line, and the carried ones, are so many
piece_length : {e at : ℕ} (l : List ℕ) → at ≤ e → e ≤ length l → length (take (e - at) (drop at l)) ≡ e - at
piece_length {e} {at} l s h = length-take-le (e - at) (drop at l) (omega (arith, length-drop at l))

-- the carried bytes with those of the chunk after them
carried : {n e at : ℕ} (carry l : List ℕ) {after : List ℕ} → n ≤ length carry → at ≤ e → e ≤ length l → after ≡ put n (take (e - at) (drop at l)) carry → take (n + (e - at)) after ≡ take n carry ++ take (e - at) (drop at l)
carried {n} {e} {at} carry l h s w k =
    ap (take (n + (e - at))) k
    ∙ carried_take n (n + (e - at)) (take (e - at) (drop at l)) carry h (ap (λ k. n + k) (sym (piece_length l s w)))

-- the carry once the bytes are copied
stored : (n e at : ℕ) (carry l part : List ℕ) → at ≤ e → e ≤ length l → part ≡ take (e - at) (drop at l) → put_mid n ((n + (e - at)) - n) carry part ≡ put n (take (e - at) (drop at l)) carry
stored n e at carry l part s h k =
    lent n ((n + (e - at)) - n) carry part (ap length k ∙ omega (arith, piece_length l s h))
    ∙ ap (λ v. put n v carry) k

pub returns-then-e-chunk-clause-turned : goal.returns-then-e-chunk-clause-turned
returns-then-e-chunk-clause-turned c =
    let a = c.args in
    let t = c.end_of-e in
    let j = c.judge in
    let e = c.line_of-line.ensures ∙ ap (λ n. line_of (take n a.desk.now.carry.now ++ take (t.result - a.self.at) (drop a.self.at a.chunk.now))) (sym c.if-n-eq0.true) in
    turned_line a.self a.state a.chunk.now a.desk.now c.requires.0 c.requires.1.going t.ensures c.if-e-chunk.true
    (subst (λ l. Judged l a.state a.self (t.result + 1) a.desk.now.cells.now a.out.now j.result j.new.desk.cells.now j.new.desk.index.now j.new.out) e j.ensures.judged)

pub returns-then-long-clause-turned : goal.returns-then-long-clause-turned
returns-then-long-clause-turned c =
    let a = c.args in
    let t = c.end_of-e in
    let l = a.desk.now.lengths.carries in
    rw c.refused.ensures.reader
    (turned_long a.self a.state a.chunk.now a.desk.now c.requires.0 c.requires.1.going t.ensures
    (omega (
      arith,
      c.if-long.true,
      length-append (take a.self.carried a.desk.now.carry.now) (take (t.result - a.self.at) (drop a.self.at a.chunk.now)),
      length-take-le a.self.carried a.desk.now.carry.now (omega (arith, c.requires.0.short)),
      piece_length a.chunk.now t.ensures.starts t.ensures.within,
    ))
    c.refused.ensures.wrote)

pub returns-then-e-chunk-2-clause-turned : goal.returns-then-e-chunk-2-clause-turned
returns-then-e-chunk-2-clause-turned c =
    let a = c.args in
    let t = c.end_of-e in
    let j = c.judge-then-e-chunk-2 in
    let l = a.desk.now.lengths.carries in
    let w = stored a.self.carried t.result a.self.at a.desk.now.carry.now a.chunk.now c.copy_from_slice.new.self t.ensures.starts t.ensures.within c.copy_from_slice.ensures.after in
    let k = carried a.desk.now.carry.now a.chunk.now (omega (arith, c.requires.0.short)) t.ensures.starts t.ensures.within w in
    turned_line a.self a.state a.chunk.now a.desk.now c.requires.0 c.requires.1.going t.ensures c.if-e-chunk-2.true
    (subst (λ l. Judged l a.state a.self (t.result + 1) a.desk.now.cells.now a.out.now j.result j.new.desk.cells.now j.new.desk.index.now j.new.out) (c.line_of-line-then-e-chunk-2.ensures ∙ ap line_of k) j.ensures.judged)

pub returns-clause-turned : goal.returns-clause-turned
returns-clause-turned c =
    let a = c.args in
    let t = c.end_of-e in
    let l = a.desk.now.lengths.carries in
    let w = stored a.self.carried t.result a.self.at a.desk.now.carry.now a.chunk.now c.copy_from_slice.new.self t.ensures.starts t.ensures.within c.copy_from_slice.ensures.after in
    let k = carried a.desk.now.carry.now a.chunk.now (omega (arith, c.requires.0.short)) t.ensures.starts t.ensures.within w in
    turned_over a.self a.state a.chunk.now a.desk.now c.requires.0 c.requires.1.going t.ensures (omega (arith, c.requires.1.room)) c.if-long.false refl refl k
