use Rattle.std.proofs.Common.{get_or}
use Rattle.std.proofs.lemmas.List.Elements.{Contains-get_or}
use Rattle.maskcull_c.specs.declared.given.Triangle.{Triangle}
use Rattle.maskcull_c.proofs.MeshPieces.{held_point, triangle_within}
use Rattle.maskcull_c.proofs.float_set_up.triangle_fan.Goals as goal

no_triangle : Triangle
no_triangle = record { a = 0; b = 0; c = 0 }

pub returns-clause-within : goal.returns-clause-within
unfolding no_triangle
returns-clause-within c positions all =
    let lens = c.args.lens.now in let held = c.args.held.now in let ts = c.args.triangles.now in let i = c.args.i in
    let t : Triangle = get_or ts i no_triangle in
    let among = c.requires.among i no_triangle c.requires.there in
    triangle_within lens positions ts t c.in_ok-a.a c.in_ok-b.b c.in_ok-c.c c.triangle_pieces.result (Contains-get_or ts i no_triangle c.requires.there)
    (held_point lens positions held t.a _ c.in_ok-a.a all among.a c.in_ok-a.ensures)
    (held_point lens positions held t.b _ c.in_ok-b.b all among.b c.in_ok-b.ensures)
    (held_point lens positions held t.c _ c.in_ok-c.c all among.c c.in_ok-c.ensures)
    c.triangle_pieces.ensures.within
