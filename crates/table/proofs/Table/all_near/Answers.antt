-- What the check leaves of `all_near`.
use Rattle.std.specs.Prelude.{◌≡◌, ◌+◌, ◌-◌, ◌≤◌, ℕ, ℤ, pos}
use Rattle.std.specs.Int.{w64}
use Rattle.std.proofs.Common.{rules, sym, ap, ap₂, ◌∙◌, arith, SFits, to_z, of_z}
use Rattle.std.proofs.lemmas.Bool.{not-true}
use Rattle.std.proofs.lemmas.Int.{to_z-of_z}
use Rattle.paper.specs.Descriptor.{size_of, cell_of}
use Rattle.paper.specs.declared.Descriptor.{Descriptor}
use Rattle.table.specs.Cells.{low_end}
use Rattle.table.specs.Close.{low_cell, high_cell, in_order, none_far_in_slice}
use Rattle.table.proofs.Table.all_near.Goals as goal

-- where the cells begin, and the first cell and the last
end_is : {s : ℤ} {r : ℕ} (m : ℕ) → SFits w64 s → r ≡ low_end (to_z w64 (of_z w64 s)) m → r ≡ low_end s m
end_is {s} {r} m f e = e ∙ ap (λ z. low_end z m) (to_z-of_z w64 s f)

first_is : (d : Descriptor) (m i j first : ℕ) → pos first ≡ cell_of d i j → i ≡ low_end d.segment_stride m → j ≡ low_end d.coordinate_stride 3 → pos first ≡ low_cell d m
first_is d m i j first e f g = e ∙ ap₂ (cell_of d) f g

last_is : (d : Descriptor) (m i j end : ℕ) → pos end ≡ cell_of d (m - i) (3 - j) → i ≡ low_end d.segment_stride m → j ≡ low_end d.coordinate_stride 3 → pos end ≡ high_cell d m
last_is d m i j end e f g = e ∙ ap₂ (λ i j. cell_of d (m - i) (3 - j)) f g

pub overflow_sub-m : goal.overflow_sub-m
overflow_sub-m c =
    let d = c.args.self.descriptor in
    let m = c.count-n.result - 1 in
    let s : SFits w64 d.segment_stride = search rules in
    let t : SFits w64 d.coordinate_stride = search rules in
    let i = end_is m s c.low_end-i.ensures in
    let j = end_is 3 t c.low_end-j.ensures in
    in_order d m (first_is d m _ _ _ c.index-first.ensures.0 i j) (last_is d m _ _ _ c.index-end.ensures.0 i j)

pub returns : goal.returns
returns c = λ e.
    let d = c.args.self.descriptor in
    let m = c.count-n.result - 1 in
    let s : SFits w64 d.segment_stride = search rules in
    let t : SFits w64 d.coordinate_stride = search rules in
    let i = end_is m s c.low_end-i.ensures in
    let j = end_is 3 t c.low_end-j.ensures in
    let n : size_of d ≡ m + 1 = omega arith in
    let g : c.index-first.result ≤ c.index-end.result = in_order d m (first_is d m _ _ _ c.index-first.ensures.0 i j) (last_is d m _ _ _ c.index-end.ensures.0 i j) in
    none_far_in_slice d m (first_is d m _ _ _ c.index-first.ensures.0 i j) (last_is d m _ _ _ c.index-end.ensures.0 i j) c.args.self.cells.now n (omega arith) c.index-end.ensures.2 (sym c.any_beyond.ensures ∙ not-true _ e)
