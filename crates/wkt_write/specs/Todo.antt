-- A text that is written part by part: what an output has of it, and what is still due.
-- Use: `due_start`, then for each part `due_room` before it is written and `due_step` after, and `due_end` once nothing is due. Assumes nothing.
use Rattle.std.specs.Prelude.{◌≡◌, refl, List, [], ◌++◌, ℕ, length}
use Rattle.std.proofs.Common.{ap, ◌∙◌, subst, append_assoc, arith, length-append}
use Rattle.texts.specs.declared.Output.{Output}
use Rattle.texts.specs.Written.{Room, Wrote, wrote_none, wrote_join, wrote_length}

pub record Due (whole left : List ℕ) (before now : Output) : Type 0 where
  pub written : List ℕ
  pub wrote : Wrote written before now
  pub rest : written ++ left ≡ whole
  pub room : Room (length whole) before

pub due_start : (whole : List ℕ) {o : Output} → Room (length whole) o → Due whole whole o o
due_start whole {o} h = record { written = []; wrote = wrote_none (omega (arith, h)); rest = refl; room = h }

module _ {whole : List ℕ} (a b : List ℕ) {before now : Output} (d : Due whole (a ++ b) before now) where
  pub due_room : Room (length a) now
  due_room = omega (arith, d.wrote.ends, wrote_length d.wrote, d.room, ap length d.rest, length-append d.written (a ++ b), length-append a b)

  pub due_step : {next : Output} → Wrote a now next → Due whole b before next
  due_step w = record { written = d.written ++ a; wrote = wrote_join d.wrote w; rest = append_assoc d.written a b ∙ d.rest; room = d.room }

-- the last part
module _ {whole a : List ℕ} {before now : Output} (d : Due whole a before now) where
  pub due_all : Room (length a) now
  due_all = omega (arith, d.wrote.ends, wrote_length d.wrote, d.room, ap length d.rest, length-append d.written a)

  pub due_last : {next : Output} → Wrote a now next → Wrote whole before next
  due_last {next} w = subst (λ t. Wrote t before next) d.rest (wrote_join d.wrote w)
