use Rattle.std.proofs.Common.{◌≡◌, ◌^◌, ◌&&◌, Bool, true, FitsSigned, w32, arith}
use Rattle.std.proofs.lemmas.Bool.{and_parts}
use Rattle.std.proofs.lemmas.Int.{to_z-of_z}
use Rattle.edge_lanes.proofs.Around.{lanes_from, lanes_through}
use Rattle.edge_lanes.proofs.small_edges.is_little.Goals as goal

pub are_few-requires-clause-across : goal.are_few-requires-clause-across
are_few-requires-clause-across c = lanes_through (2 ^ 30) c.args.row (omega arith) c.requires.row

pub are_few-requires-clause-down : goal.are_few-requires-clause-down
are_few-requires-clause-down c = lanes_through (2 ^ 30) c.args.column (omega arith) c.requires.column

three : (a b c : Bool) → ((a && b) && c) ≡ true → (a ≡ true) × (b ≡ true) × (c ≡ true)
three a b c h = let outer = and_parts (a && b) c h in let inner = and_parts a b outer.0 in (inner.0, inner.1, outer.1)

pub returns-clause-x : goal.returns-clause-x
returns-clause-x c h =
    let f : FitsSigned w32 c.args.x = c.ranges.x in
    let all = three c.are_few.result c.is_near.result c.is_near-2.result h in
    simp to_z-of_z at (c.is_near.ensures all.1)

pub returns-clause-y : goal.returns-clause-y
returns-clause-y c h =
    let f : FitsSigned w32 c.args.y = c.ranges.y in
    let all = three c.are_few.result c.is_near.result c.is_near-2.result h in
    simp to_z-of_z at (c.is_near-2.ensures all.2)

pub returns-clause-row : goal.returns-clause-row
returns-clause-row c h =
    let all = three c.are_few.result c.is_near.result c.is_near-2.result h in
    lanes_from (2 ^ 10) (2 ^ 30) c.args.row (omega arith) c.requires.row (c.are_few.ensures.across all.0)

pub returns-clause-column : goal.returns-clause-column
returns-clause-column c h =
    let all = three c.are_few.result c.is_near.result c.is_near-2.result h in
    lanes_from (2 ^ 10) (2 ^ 30) c.args.column (omega arith) c.requires.column (c.are_few.ensures.down all.0)
