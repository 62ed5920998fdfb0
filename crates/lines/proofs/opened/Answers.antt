-- What the check leaves of `opened`.
use Rattle.std.proofs.Common.{◌≡◌, ℤ, sym, ap, ap₂, ◌∙◌, subst, rules, Ok, Err}
use Rattle.std.proofs.lemmas.Int.{to_z-of_z}
use mir.Syntax.{w64}
use mir.Val.{SFits, to_z, of_z}
use Rattle.paper.specs.Answers.{bad_kind, bad_lower}
use Rattle.paper.specs.Lines.{table}
use Rattle.fields.specs.declared.Line.{Line as Parsed}
use Rattle.fields.specs.declared.Line.TheVariants as parsed
use Rattle.fields.specs.Forms.{shown_line}
use Rattle.lines.specs.States.{Opened, S_first, W_first, other_first, T_kind, T_lower, T_good}
use Rattle.lines.specs.declared.Fault.TheVariants.{Form, Kind, Lower}
use Rattle.lines.proofs.Tags.{no_table}
use Rattle.lines.proofs.opened.Goals as goal

pub returns-in_default : goal.returns-in_default
returns-in_default c = no_table (λ l. Opened l (Err Form)) c.args.line c.in_default.not-Table S_first W_first other_first

-- a T line, as the code holds its numbers
read_table_is : {line : Parsed} {k l : ℤ} → line ≡ parsed.Table k l → SFits w64 k → SFits w64 l → shown_line line ≡ table (to_z w64 (of_z w64 k)) (to_z w64 (of_z w64 l))
read_table_is {k = k} {l = l} e f g = ap shown_line e ∙ ap₂ table (sym (to_z-of_z w64 k f)) (sym (to_z-of_z w64 l g))

pub returns-then-bad_kind : goal.returns-then-bad_kind
returns-then-bad_kind c =
    let e = read_table_is c.in-Table.is (search rules) (search rules) in
    let k = c.bad_kind.ensures ∙ ap (λ d. (bad_kind d.kind).given) c.descriptor-descriptor.ensures in
    subst (λ l. Opened l (Err Kind)) (sym e) (T_kind _ _ (sym k ∙ c.if-bad_kind.true))

pub returns-then-bad_lower : goal.returns-then-bad_lower
returns-then-bad_lower c =
    let e = read_table_is c.in-Table.is (search rules) (search rules) in
    let k = c.bad_kind.ensures ∙ ap (λ d. (bad_kind d.kind).given) c.descriptor-descriptor.ensures in
    let l = c.bad_lower.ensures ∙ ap (λ d. (bad_lower d.kind d.lower).given) c.descriptor-descriptor.ensures in
    subst (λ l. Opened l (Err Lower)) (sym e) (T_lower _ _ (sym k ∙ c.if-bad_kind.false) (sym l ∙ c.if-bad_lower.true))

pub returns : goal.returns
returns c =
    let e = read_table_is c.in-Table.is (search rules) (search rules) in
    let k = c.bad_kind.ensures ∙ ap (λ d. (bad_kind d.kind).given) c.descriptor-descriptor.ensures in
    let l = c.bad_lower.ensures ∙ ap (λ d. (bad_lower d.kind d.lower).given) c.descriptor-descriptor.ensures in
    subst (λ l. Opened l (Ok (record { kind = to_z w64 (of_z w64 c.in-Table.kind); lower = to_z w64 (of_z w64 c.in-Table.lower); size = 0 }))) (sym e)
    (T_good _ _ (sym k ∙ c.if-bad_kind.false) (sym l ∙ c.if-bad_lower.false))
