-- What the check leaves of `gather`.
use Rattle.std.specs.Prelude.{◌≡◌, ℤ, pos, get_or}
use Rattle.std.proofs.Common.{rules, sym, ◌∙◌, w32, SFits, to_z, of_z}
use Rattle.std.proofs.lemmas.Int.{to_z-of_z}
use Rattle.builder.specs.Placing.{belongs}
use Rattle.builder.specs.Gathering.{place, taken, passed, end_count, end_list}
use Rattle.builder.proofs.gather.Goals as goal
use Rattle.builder.proofs.gather.Goals.{then-belongs, else-belongs}

pub bounds-words-count : goal.bounds-words-count
bounds-words-count c =
    let a = c.args in
    let v = c.loop-p in
    let f : SFits w32 (get_or a.run.now v.p-index (pos 0)) = search rules in
    let test : c.belongs.result ≡ belongs a.ends (get_or a.run.now v.p-index (pos 0)) = rw (to_z-of_z w32 _ f) at c.belongs.ensures in
    place (belongs a.ends) a.run.now a.words.now c.requires v.words v.count v.p-index v.invariant c.loop-p-test.true (sym test ∙ c.if-belongs.true)

pub loop-p-preserved : goal.loop-p-preserved
loop-p-preserved c =
    let a = c.args in
    let v = c.loop-p in
    let x : ℤ = get_or a.run.now v.p-index (pos 0) in
    let f : SFits w32 x = search rules in
    let word : to_z w32 (of_z w32 x) ≡ x = to_z-of_z w32 x f in
    let test : c.belongs.result ≡ belongs a.ends x = rw word at c.belongs.ensures in
    elim c.if-belongs.branch [
      | then-belongs w ↦
          rw (w.words-is, w.count-is, word) (taken (belongs a.ends) a.run.now a.words.now c.requires v.words v.count v.p-index v.invariant c.loop-p-test.true (sym test ∙ w.if-belongs.true))
      | else-belongs w ↦ rw (w.words-is, w.count-is) (passed (belongs a.ends) a.run.now a.words.now c.requires v.words v.count v.p-index v.invariant c.loop-p-test.true (sym test ∙ w.if-belongs.false))
    ]

pub returns-clause-value : goal.returns-clause-value
returns-clause-value c =
    let a = c.args in
    let v = c.loop-p in
    end_count (belongs a.ends) a.run.now a.words.now c.requires v.words v.count v.p-index v.invariant c.loop-p-test.false

pub returns-clause-words_after : goal.returns-clause-words_after
returns-clause-words_after c =
    let a = c.args in
    let v = c.loop-p in
    end_list (belongs a.ends) a.run.now a.words.now c.requires v.words v.count v.p-index v.invariant c.loop-p-test.false
