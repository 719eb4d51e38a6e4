use Rattle.std.proofs.Common.{◌∙◌, ◌*◌, ◌^◌, None, sym}
use Rattle.clip_lines.specs.Lines.{cross}
use Rattle.pixel_forms.specs.declared.forms.Forms.{Forms}
use Rattle.pixel_forms.proofs.Corners.{are-of, known-of}
use Rattle.pixel_forms.proofs.Triangles.{triangle-stands}
use Rattle.pixel_forms.proofs.forms.Forms.triangle.Goals as goal

pub returns-clause-stand : goal.returns-clause-stand
returns-clause-stand c unit p q r h hp hq hr =
    let eye = c.args.eye.now in let shift = c.shift_of-shift.result in let plane = c.in_ok-plane.plane in
    let scale = (unit * 2 ^ shift) * (unit * 2 ^ shift) in
    let forms : Forms = record { first = c.of_edge.result; second = c.of_edge-2.result; third = c.of_edge-3.result; plane = c.in_ok-nearness.nearness; other = None } in
    let are = are-of unit shift c.of-p.result c.of-q.result c.of-r.result c.through-pq.result c.through-qr.result c.through-rp.result p q r h
    (c.of-p.ensures.stands unit p hp) (c.of-q.ensures.stands unit q hq) (c.of-r.ensures.stands unit r hr) c.through-pq.ensures.stands c.through-qr.ensures.stands c.through-rp.ensures.stands in
    let known = known-of eye unit shift plane c.is_front.result c.in_ok-nearness.nearness c.args.a.now c.args.b.now c.args.c.now p q r h
    c.in_ok-plane.ensures.thin (c.in_ok-plane.ensures.stands (unit * 2 ^ shift) p q r are) c.in_ok-nearness.ensures.stands
    c.is_front.ensures.a c.is_front.ensures.b c.is_front.ensures.c (sym c.keeps.ensures ∙ c.if-not-keeps.false) hp hq hr in
    let first = c.of_edge.ensures.stands scale (cross p q) are.ab in
    let second = c.of_edge-2.ensures.stands scale (cross q r) are.bc in
    let third = c.of_edge-3.ensures.stands scale (cross r p) are.ca in
    triangle-stands eye unit shift plane c.is_front.result forms p q r first.0 second.0 third.0 known first.1 second.1 third.1
