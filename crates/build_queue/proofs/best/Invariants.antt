-- The loop of `best` keeps the best of what it has seen, and its key.
use Rattle.std.specs.Prelude.{◌≡◌, get_or}
use Rattle.axes.specs.Axes.{end_of}
use Rattle.build_queue.specs.Ends.{records_in, axis_in}
use Rattle.build_queue.specs.Runs.{named}
use Rattle.build_queue.specs.Best.{Seen, key_at}
use Rattle.build_queue.proofs.best.Given as goal

abbrev pub invariant-loop-i : goal.invariant-loop-i
invariant-loop-i l =
    Seen (records_in l.ends) (axis_in l.ends) (end_of l.end) (named l.run) l.place l.i
    × (l.taken ≡ key_at (records_in l.ends) (axis_in l.ends) (end_of l.end) (get_or (named l.run) l.place 0))
