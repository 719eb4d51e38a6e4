use Rattle.std.proofs.Common.{◌+◌, ◌<◌, get_or, length, arith}
use Rattle.std.proofs.lemmas.List.Elements.{Contains-get_or}
use Rattle.maskcull_c.specs.declared.given.Triangle.{Triangle}
use Rattle.maskcull_c.proofs.MeshPieces.{held_point, quad_within}
use Rattle.maskcull_c.proofs.float_set_up.quad_fan.Goals as goal

no_triangle : Triangle
no_triangle = record { a = 0; b = 0; c = 0 }

pub bounds-held-first-2 : goal.bounds-held-first-2
unfolding no_triangle
bounds-held-first-2 c = let there = c.requires.there in (c.requires.among c.args.i no_triangle (omega (arith, there))).b

pub bounds-held-first-3 : goal.bounds-held-first-3
unfolding no_triangle
bounds-held-first-3 c = let there = c.requires.there in (c.requires.among c.args.i no_triangle (omega (arith, there))).c

pub returns-clause-within : goal.returns-clause-within
unfolding no_triangle
returns-clause-within c =
    let lens = c.args.lens.now in let held = c.args.held.now in let floats = c.args.positions.now in let ts = c.args.triangles.now in let i = c.args.i in
    let there = c.requires.there in
    let before : i < length ts = omega (arith, there) in
    let t : Triangle = get_or ts i no_triangle in let u : Triangle = get_or ts (i + 1) no_triangle in
    let first = c.requires.among i no_triangle before in
    let second = c.requires.among (i + 1) no_triangle there in
    let all = c.requires.held in
    quad_within lens floats ts t u c.in_ok-a.a c.in_ok-b.b c.in_ok-c.c c.in_ok-d.d c.in_ok-pieces.pieces (Contains-get_or ts i no_triangle before) (Contains-get_or ts (i + 1) no_triangle there)
    (c.are_same.ensures c.if-not-are_same.false) (c.are_same-else-not-are_same.ensures c.if-not-are_same-2.false)
    (held_point lens floats held t.a _ c.in_ok-a.a all first.a c.in_ok-a.ensures)
    (held_point lens floats held t.b _ c.in_ok-b.b all first.b c.in_ok-b.ensures)
    (held_point lens floats held t.c _ c.in_ok-c.c all first.c c.in_ok-c.ensures)
    (held_point lens floats held u.c _ c.in_ok-d.d all second.c c.in_ok-d.ensures)
    c.in_ok-pieces.ensures.within
