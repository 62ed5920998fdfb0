-- A line judged, from what each part of the code says of it: the cases of `paper`'s `read`.
use Rattle.std.specs.Prelude.{◌≡◌, true, false, ℤ, pos, length, take, replicate, Result as Outcome, Ok, Err}
use Rattle.std.proofs.Math.Path.{refl}
use Rattle.std.proofs.Common.{sym, ap, ap₂, ◌∙◌}
use mathlib.Core.List.{List, []}
use native.Mathlib.Omega.{arith}
use Rattle.paper.specs.Answers.{bad_window}
use Rattle.paper.specs.Words.{W}
use Rattle.paper.specs.Results.{Result, built, queried}
use Rattle.paper.specs.Lines.{Line, table, segment, window, other, fault, next, asking, read, answered, printed}
use Rattle.paper.specs.declared.Segment.{Segment}
use Rattle.paper.specs.declared.Window.{Window}
use Rattle.paper.specs.declared.Reply.{Reply}
use Rattle.texts.specs.Written.{Room, Wrote, wrote_none}
use Rattle.texts.specs.declared.Output.{Output}
use Rattle.lines.specs.States.{descriptor_of, first_of, segments_in, state_of, Fits, filled, Opened, Added, answer_over, Ready, still, Asked, Stepped}
use Rattle.lines.specs.Asking.{size_is, built_done, words_ready}
use Rattle.lines.specs.declared.Table.{Table}
use Rattle.lines.specs.declared.Fault.{Fault}
use Rattle.lines.specs.declared.Fault.TheVariants.{Form, Window as BadWindow}
use Rattle.lines.specs.declared.State.TheVariants.{Start, Filling, Asking}

-- ---- after the first W line
module _ (t : Table) (index : List ℤ) (out : Output) where
  out_of_place : {line : Line} → ((cells : List ℤ) → read (state_of (Asking t) cells) line ≡ fault 0) → Asked t line index out (Err Form) out
  out_of_place e = record { text = []; reads = λ cells r. e cells; wrote = refl }

  pub T_late : (kind lower : ℤ) → Asked t (table kind lower) index out (Err Form) out
  unfolding read
  T_late kind lower = out_of_place (λ cells. refl)

  pub S_late : (s : Segment) → Asked t (segment s) index out (Err Form) out
  unfolding read
  S_late s = out_of_place (λ cells. refl)

  pub other_late : Asked t other index out (Err Form) out
  unfolding read
  other_late = out_of_place (λ cells. refl)

  module _ (w : Window) where
    pub W_bad : (bad_window w).given ≡ true → Asked t (window w) index out (Err BadWindow) out
    unfolding read
    W_bad e = record { text = []; reads = λ cells r. rw e refl; wrote = refl }

    -- the words that stand ready are those that the paper asks
    answer_is : (cells : List ℤ) → Ready t cells index → answered (first_of t) (segments_in t cells) w ≡ answer_over t w index
    answer_is cells r = ap₂ (λ ws n. printed (queried ws w (replicate n (pos 0)))) (sym r.words) (size_is t cells r.fits)

    pub W_good : (bad_window w).given ≡ false → {after : Output} → Wrote (answer_over t w index) out after → Asked t (window w) index out (Ok tt) after
    unfolding read
    W_good e wrote = record {
      text = answer_over t w index;
      reads = λ cells r. rw e (ap (λ text. next (asking (first_of t) (segments_in t cells)) text) (answer_is cells r));
      wrote = wrote;
    }

-- ---- between the T line and the first W line
module _ (t : Table) (cells index : List ℤ) (out : Output) where
  pub added_step : (s : Segment) (r : Outcome Table Fault) (after : List ℤ) → Room 0 out → Added t s cells r after → Stepped (Filling t) (segment s) cells out (filled r) after index out
  unfolding read
  added_step s (Err f) after h a = record { text = []; reads = a.reads; wrote = refl; kept = omega arith }
  added_step s (Ok u) after h a = record { text = []; reads = a.reads; wrote = wrote_none (omega (arith, h)); kept = a.kept }

  not_filled : {line : Line} → read (state_of (Filling t) cells) line ≡ fault 0 → Stepped (Filling t) line cells out (Err Form) cells index out
  not_filled e = record { text = []; reads = e; wrote = refl; kept = omega arith }

  pub T_twice : (kind lower : ℤ) → Stepped (Filling t) (table kind lower) cells out (Err Form) cells index out
  unfolding read
  T_twice kind lower = not_filled refl

  pub other_filled : Stepped (Filling t) other cells out (Err Form) cells index out
  unfolding read
  other_filled = not_filled refl

  module _ (w : Window) where
    pub first_bad : (bad_window w).given ≡ true → Stepped (Filling t) (window w) cells out (Err BadWindow) cells index out
    unfolding read
    first_bad e = record { text = []; reads = rw e refl; wrote = refl; kept = omega arith }

    module _ (fit : Fits t cells) (long : length cells ≡ 1024) (wide : length index ≡ 7684) where
      -- the first W line: the index is built and stands ready
      pub ready : {reply : Reply} {words : List ℤ} → (reply, words) ≡ built cells (descriptor_of t) index → Ready t cells words
      ready e = record {
        fits = fit;
        words = ap (λ ws. take (W t.size) ws) (ap (λ (x : Result). x.1) (e ∙ built_done t cells fit long index wide)) ∙ words_ready t cells fit long index;
      }

      pub first_good : (bad_window w).given ≡ false → {reply : Reply} {words : List ℤ} → (reply, words) ≡ built cells (descriptor_of t) index → {after : Output} → Wrote (answer_over t w words) out after → Stepped (Filling t) (window w) cells out (Ok (Asking t)) cells words after
      unfolding read
      first_good b {reply} {words} e wrote = record {
        text = answer_over t w words;
        reads = rw b (ap (λ text. next (asking (first_of t) (segments_in t cells)) text) (answer_is t words out w cells (ready e)));
        wrote = wrote;
        kept = ready e;
      }

-- ---- any state
module _ (cells index : List ℤ) (out : Output) where
  pub opened_step : (line : Line) (r : Outcome Table Fault) → Room 0 out → Opened line r → Stepped Start line cells out (filled r) cells index out
  opened_step line (Err f) h o = record { text = []; reads = o.reads cells; wrote = refl; kept = omega arith }
  opened_step line (Ok t) h o = record { text = []; reads = o.reads cells; wrote = wrote_none (omega (arith, h)); kept = o.kept.1 cells }

  pub asked_step : (t : Table) (line : Line) (r : Outcome (Unit {0}) Fault) (after : Output) → Ready t cells index → Asked t line index out r after → Stepped (Asking t) line cells out (still t r) cells index after
  asked_step t line (Err f) after ready a = record { text = a.text; reads = a.reads cells ready; wrote = a.wrote; kept = omega arith }
  asked_step t line (Ok u) after ready a = record { text = a.text; reads = a.reads cells ready; wrote = a.wrote; kept = ready }
