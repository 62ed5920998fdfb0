-- What the check leaves of `ask`.
use Rattle.std.proofs.Common.{refl, sym, arith, w32, ◌≤◌, ℕ, List, ℤ}
use borrow.Author.Count.{below_none, below_more}
use Rattle.std.proofs.Math.ListN.{length-set}
use Rattle.std.proofs.Common.{rules}
use Rattle.whole.specs.Whole.{kept}
use Rattle.paper.specs.Walk.{word, size_in, walk_of}
use Rattle.paper.specs.Windows.{window_at}
use Rattle.walk.specs.Header.{sound_index}
use Rattle.windows.specs.Asking.{first_windows, next_window, windows_length, Answers, nothing_asked, one_more, ended}
use Rattle.windows.proofs.ask.Goals as goal

-- what has come together so far is not much
small : (edges : List ℤ) (i : ℕ) {ws : List ℤ} {counts₀ room₀ : List ℤ} {due visits : ℕ} {counts room : List ℤ} → Answers ws (first_windows edges i) counts₀ room₀ due visits counts room → i ≤ 64
    → (due ≤ 262144) × (visits ≤ 1572864)
small edges i a h = let n = windows_length edges i in (omega (arith, a.few_due, n, h), omega (arith, a.few_visits, n, h))

pub loop-i-init : goal.loop-i-init
loop-i-init c = (below_none _, nothing_asked c.args.index.words.now c.args.windows.edges.now c.args.counts.now c.args.room.now, refl, refl)

pub overflow_add-all : goal.overflow_add-all
overflow_add-all c =
    let ws = c.args.index.words.now in
    let l = c.loop-i in
    let s = small c.args.windows.edges.now l.i l.invariant.1 (omega (arith, c.count-i-end.ensures.1)) in
    let e = ended (size_in ws) (word ws 1) l.room l.all.listed (walk_of ws c.at.result) c.in-Ok.tally c.walk_on.new.room c.in-Ok.ensures.onward in
    omega (arith, e.1, s.0, (sound_index ws c.args.index.sound).most)

pub overflow_add-all-in-loop-i : goal.overflow_add-all-in-loop-i
overflow_add-all-in-loop-i c =
    let ws = c.args.index.words.now in
    let s = small c.args.windows.edges.now c.loop-i.i c.loop-i.invariant.1 (omega (arith, c.count-i-end.ensures.1)) in
    omega (arith, c.in-Ok.ensures.few, s.1, (sound_index ws c.args.index.sound).most)

pub loop-i-preserved : goal.loop-i-preserved
loop-i-preserved c =
    let ws = c.args.index.words.now in
    let edges = c.args.windows.edges.now in
    let l = c.loop-i in
    let g = rw c.at.ensures at c.in-Ok.ensures.onward in (
      below_more _ _ l.invariant.0 (ended (size_in ws) (word ws 1) l.room l.all.listed (walk_of ws (window_at edges l.i)) c.in-Ok.tally c.walk_on.new.room g).0,
      rw (next_window edges l.i, kept w32 _ c.as_word.type_inv, c.as_word.ensures)
          (one_more ws (first_windows edges l.i) (window_at edges l.i) l.invariant.1 c.in-Ok.tally c.walk_on.new.room l.i (sym (windows_length edges l.i))
          (sound_index ws c.args.index.sound).most c.in-Ok.ensures.few g),
      simp length-set l.invariant.2,
      search rules,
    )
