-- What the check leaves of `kalinosz_scan`.
use mathlib.Core.Path.{◌∙◌}
use Rattle.hosts.specs.Answered.{descriptor_given, window_given}
use Rattle.hosts.proofs.kalinosz_scan.Goals as goal

pub returns : goal.returns
returns c =
    let a = c.args in
    let f = c.ranges in
    let descriptor = c.described-descriptor.ensures ∙ descriptor_given f.kind f.base f.lower f.n f.segment_stride f.coordinate_stride in
    let window = c.window_of-window.ensures ∙ window_given f.a f.b f.c f.d in
    rw (descriptor, window) at c.scan.ensures.scanned
