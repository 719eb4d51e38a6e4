use Rattle.std.proofs.Common.{◌≡◌, ◌∙◌, ◌^◌, pos, FitsSigned, slice_index_or, w32, arith, rules, sym}
use Rattle.std.proofs.lemmas.Int.{to_z-of_z}
use Rattle.edge_lanes.specs.Around.{lane}
use Rattle.edge_lanes.proofs.Around.{lanes_back, lanes_through, through}
use Rattle.edge_lanes.proofs.SmallSteps.{around_bounded, back_bounded, edges_between, placed}
use Rattle.edge_lanes.proofs.small_edges.SmallEdges.between.Goals as goal

pub past-requires-clause-place : goal.past-requires-clause-place
past-requires-clause-place c =
    let fx : FitsSigned w32 (slice_index_or c.args.x 0 (pos 0)) = search rules in
    let fp : FitsSigned w32 c.pixel-right.result = search rules in let fm : FitsSigned w32 c.middle.result = search rules in
    simp to_z-of_z (placed c.middle.result c.pixel-right.result (lane c.args.x 0) (simp to_z-of_z at c.middle.ensures) (simp to_z-of_z at c.pixel-right.ensures.value))

pub past-requires-2-clause-place : goal.past-requires-2-clause-place
past-requires-2-clause-place c =
    let fy : FitsSigned w32 (slice_index_or c.args.y 0 (pos 0)) = search rules in
    let fp : FitsSigned w32 c.pixel-below.result = search rules in let fm : FitsSigned w32 c.middle-2.result = search rules in
    simp to_z-of_z (placed c.middle-2.result c.pixel-below.result (lane c.args.y 0) (simp to_z-of_z at c.middle-2.ensures) (simp to_z-of_z at c.pixel-below.ensures.value))

pub values-there-requires-clause-row : goal.values-there-requires-clause-row
values-there-requires-clause-row c = lanes_through (2 ^ 10) c.args.row (omega arith) (around_bounded c.args.x c.args.row c.requires.row c.requires.x)

pub values-there-requires-clause-column : goal.values-there-requires-clause-column
values-there-requires-clause-column c = lanes_through (2 ^ 10) c.args.column (omega arith) (back_bounded c.args.y c.args.column c.requires.column c.requires.y)

pub values-there-requires-clause-right : goal.values-there-requires-clause-right
values-there-requires-clause-right c = lanes_through (2 ^ 11) c.past.result (omega arith) c.past.ensures.bounded

pub values-there-requires-clause-below : goal.values-there-requires-clause-below
values-there-requires-clause-below c = lanes_through (2 ^ 11) c.past-2.result (omega arith) c.past-2.ensures.bounded

pub biases-requires-clause-row : goal.biases-requires-clause-row
biases-requires-clause-row c = lanes_through (2 ^ 10) c.args.row (omega arith) (around_bounded c.args.x c.args.row c.requires.row c.requires.x)

pub biases-requires-clause-column : goal.biases-requires-clause-column
biases-requires-clause-column c = lanes_through (2 ^ 10) c.args.column (omega arith) (back_bounded c.args.y c.args.column c.requires.column c.requires.y)

pub sixteenths-start-requires-clause-values : goal.sixteenths-start-requires-clause-values
sixteenths-start-requires-clause-values c = lanes_through (2 ^ 22) c.values-there.result (omega arith) c.values-there.ensures.bounded

pub sixteenths-start-requires-clause-biases : goal.sixteenths-start-requires-clause-biases
sixteenths-start-requires-clause-biases c = lanes_through 1 c.biases.result (omega arith) c.biases.ensures.bounded

pub from_lanes-requires-clause-start : goal.from_lanes-requires-clause-start
from_lanes-requires-clause-start c = lanes_through (2 ^ 20) c.sixteenths-start.result (omega arith) c.sixteenths-start.ensures.bounded

pub from_lanes-requires-clause-column : goal.from_lanes-requires-clause-column
from_lanes-requires-clause-column c = lanes_through (2 ^ 10) c.args.column (omega arith) (back_bounded c.args.y c.args.column c.requires.column c.requires.y)

pub from_lanes-requires-clause-row : goal.from_lanes-requires-clause-row
from_lanes-requires-clause-row c = lanes_through (2 ^ 10) c.args.row (omega arith) (around_bounded c.args.x c.args.row c.requires.row c.requires.x)

pub returns : goal.returns
returns c =
    let x = c.args.x in let y = c.args.y in let row = c.args.row in let column = c.args.column in let made = c.from_lanes.result in
    let right = c.pixel-right.result in let below = c.pixel-below.result in
    let fr : FitsSigned w32 right = search rules in let fb : FitsSigned w32 below = search rules in
    let fm : FitsSigned w32 c.middle.result = search rules in let fn : FitsSigned w32 c.middle-2.result = search rules in
    let er : through row ≡ row = lanes_back (2 ^ 10) row (omega arith) (around_bounded x row c.requires.row c.requires.x) in
    let ec : through column ≡ column = lanes_back (2 ^ 10) column (omega arith) (back_bounded y column c.requires.column c.requires.y) in
    let eg : through c.past.result ≡ c.past.result = lanes_back (2 ^ 11) c.past.result (omega arith) c.past.ensures.bounded in
    let eb : through c.past-2.result ≡ c.past-2.result = lanes_back (2 ^ 11) c.past-2.result (omega arith) c.past-2.ensures.bounded in
    let ev : through c.values-there.result ≡ c.values-there.result = lanes_back (2 ^ 22) c.values-there.result (omega arith) c.values-there.ensures.bounded in
    let ei : through c.biases.result ≡ c.biases.result = lanes_back 1 c.biases.result (omega arith) c.biases.ensures.bounded in
    let es : through c.sixteenths-start.result ≡ c.sixteenths-start.result = lanes_back (2 ^ 20) c.sixteenths-start.result (omega arith) c.sixteenths-start.ensures.bounded in
    edges_between x y row column c.past.result c.past-2.result c.values-there.result c.biases.result c.sixteenths-start.result made.start c.middle.result c.middle-2.result right below made.right made.below
    made.first made.second made.third c.requires.x c.requires.y c.requires.row c.requires.column
    (rw (er, ec, eg, eb) at c.values-there.ensures.value) (simp to_z-of_z at c.past.ensures.value) (simp to_z-of_z at c.past-2.ensures.value)
    (simp to_z-of_z at c.middle.ensures) (simp to_z-of_z at c.middle-2.ensures) (rw (er, ec) at c.biases.ensures.value) (rw (ev, ei) at c.sixteenths-start.ensures.value)
    (simp to_z-of_z at c.from_lanes.ensures.right) (simp to_z-of_z at c.from_lanes.ensures.below) (c.from_lanes.ensures.start ∙ es)
    (sym made.are_columns ∙ c.from_lanes.ensures.column ∙ ec) (sym made.are_rows ∙ c.from_lanes.ensures.row ∙ er)
