use Rattle.std.proofs.Common.{◌≡◌, length, map, pos, rules, sym, ap}
use Rattle.maskcull_c.specs.declared.given.Vertex.{Vertex}
use Rattle.maskcull_c.specs.Given.{clip_of}
use Rattle.maskcull_c.proofs.Eight.{eight_of}
use Rattle.maskcull_c.proofs.ask.clips.Goals as goal

no_vertex : Vertex
no_vertex = record { x = pos 0; y = pos 0; w = pos 0 }

pub returns : goal.returns
unfolding no_vertex
returns c =
    let v = c.args.corners.now.corners in
    let n : length v ≡ 8 = search rules in
    let is = ap (map clip_of) (eight_of v no_vertex n) in
    let e1 = c.clip.ensures in let e2 = c.clip-2.ensures in let e3 = c.clip-3.ensures in let e4 = c.clip-4.ensures in
    let e5 = c.clip-5.ensures in let e6 = c.clip-6.ensures in let e7 = c.clip-7.ensures in let e8 = c.clip-8.ensures in
    rw (e1, e2, e3, e4, e5, e6, e7, e8) (sym is)
