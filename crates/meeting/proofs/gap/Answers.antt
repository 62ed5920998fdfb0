-- What the check leaves of `gap`.
use Rattle.meeting.specs.Gap.{gap_says}
use Rattle.meeting.proofs.gap.Goals as goal

pub returns : goal.returns
returns c =
    let a = c.args in let p = c.requires in
    gap_says a.lo a.hi a.u1 a.u2 p.0 p.1 p.2 p.3 c.min.ensures.value c.max.ensures.value (record { sfits = c.max-2.type_inv }) c.max-2.ensures.value
