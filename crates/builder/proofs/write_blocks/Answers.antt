-- What the check leaves of `write_blocks`.
use Rattle.std.proofs.Common.{arith}
use Rattle.builder.specs.Placing.{levels_room, across_room, split_room, along_room, first_run, second_run, h_size, placed}
use Rattle.builder.proofs.write_blocks.Goals as goal

pub overflow_sub-last : goal.overflow_sub-last
overflow_sub-last c = let a = c.args in levels_room a.marks a.levels.now a.words.now c.count-n.result c.count-n.ensures c.requires

pub slice_bounds-gather-end : goal.slice_bounds-gather-end
slice_bounds-gather-end c = let a = c.args in omega (arith, levels_room a.marks a.levels.now a.words.now c.count-n.result c.count-n.ensures c.requires)

pub gather-h-requires : goal.gather-h-requires
gather-h-requires c = let a = c.args in across_room a.marks a.levels.now a.words.now c.count-n.result c.count-n.ensures c.requires

pub split_at_mut-first-requires : goal.split_at_mut-first-requires
split_at_mut-first-requires c =
    let a = c.args in
    let g = c.gather-h in
    split_room a.marks a.levels.now a.words.now c.count-n.result c.count-n.ensures c.requires g.result g.new.words g.ensures.value g.ensures.words_after

pub gather-requires : goal.gather-requires
gather-requires c =
    let a = c.args in
    let g = c.gather-h in
    let s = c.split_at_mut-first in
    along_room a.marks a.levels.now a.words.now c.count-n.result c.count-n.ensures c.requires g.result g.new.words g.ensures.value g.ensures.words_after
    s.result.0.now s.result.1.now s.ensures.front s.ensures.back

pub block-requires : goal.block-requires
block-requires c =
    let a = c.args in
    let g = c.gather-h in
    let s = c.split_at_mut-first in
    first_run a.marks a.levels.now a.words.now c.count-n.result c.count-n.ensures c.requires g.result g.new.words g.ensures.value g.ensures.words_after
    s.result.0.now s.result.1.now s.ensures.front s.ensures.back

pub block-requires-2 : goal.block-requires-2
block-requires-2 c =
    let a = c.args in
    let g = c.gather-h in
    let s = c.split_at_mut-first in
    second_run a.marks a.levels.now a.words.now c.count-n.result c.count-n.ensures c.requires g.result g.new.words g.ensures.value g.ensures.words_after
    s.result.0.now s.result.1.now s.ensures.front s.ensures.back c.gather.new.words c.gather.ensures.words_after

pub returns-clause-value : goal.returns-clause-value
returns-clause-value c =
    let a = c.args in
    let g = c.gather-h in
    h_size a.marks a.levels.now a.words.now c.count-n.result c.count-n.ensures c.requires g.result g.new.words g.ensures.value g.ensures.words_after

pub returns-clause-words_after : goal.returns-clause-words_after
returns-clause-words_after c =
    let a = c.args in
    let g = c.gather-h in
    let s = c.split_at_mut-first in
    placed a.marks a.levels.now a.words.now c.count-n.result c.count-n.ensures c.requires g.result g.new.words g.ensures.value g.ensures.words_after
    s.result.0.now s.result.1.now s.ensures.front s.ensures.back c.gather.new.words c.gather.ensures.words_after c.block.new.part c.block-2.new.part c.block.ensures c.block-2.ensures
