use Rattle.std.proofs.Common.{◌≡◌, ◌∙◌, ◌*◌, ◌^◌, Bool, true, false, not, Some, refl, ap, sym}
use mathlib.Core.Bool.{beq}
use Rattle.clip_lines.specs.Lines.{cross}
use Rattle.pixel_forms.specs.Seen.{keeps_turned}
use Rattle.pixel_forms.specs.declared.forms.Forms.{Forms}
use Rattle.pixel_forms.specs.declared.forms.Half.{Half}
use Rattle.pixel_forms.proofs.Corners.{are-of, known-of}
use Rattle.pixel_forms.proofs.Triangles.{quad-stands}
use Rattle.pixel_forms.proofs.forms.Forms.quad.Goals as goal

-- a test for two signs that failed
same : (a b : Bool) → not (beq a b) ≡ false → b ≡ a
same true true h = refl
same false false h = refl
same true false h = cc
same false true h = cc

pub returns-clause-stand : goal.returns-clause-stand
returns-clause-stand c unit p q r s h hp hq hr hs =
    let eye = c.args.eye.now in let shift = c.shift_of-shift.result in let plane = c.in_ok-plane.plane in let over = c.in_ok-over.over in
    let scale = (unit * 2 ^ shift) * (unit * 2 ^ shift) in
    let half : Half = record { edge = c.of_edge-4.result; plane = c.in_ok-nearness_over.nearness_over } in
    let forms : Forms = record { first = c.of_edge.result; second = c.of_edge-2.result; third = c.of_edge-3.result; plane = c.in_ok-nearness.nearness; other = Some half } in
    let sp = c.of-p.ensures.stands unit p hp in let sq = c.of-q.ensures.stands unit q hq in let sr = c.of-r.ensures.stands unit r hr in let ss = c.of-s.ensures.stands unit s hs in
    let are = are-of unit shift c.of-p.result c.of-q.result c.of-r.result c.through-pq.result c.through-qr.result c.through-rp.result p q r h
    sp sq sr c.through-pq.ensures.stands c.through-qr.ensures.stands c.through-rp.ensures.stands in
    let are-over = are-of unit shift c.of-p.result c.of-r.result c.of-s.result c.opposite.result c.through-rs.result c.through-sp.result p r s h
    sp sr ss (λ scale a b ha hb. c.opposite.ensures.stands (scale * scale) b a (c.through-rp.ensures.stands scale b a hb ha)) c.through-rs.ensures.stands c.through-sp.ensures.stands in
    let kept = sym c.keeps.ensures ∙ c.if-not-keeps.false in
    let one : over.is_turned ≡ plane.is_turned = same plane.is_turned over.is_turned c.if-plane-over.false in
    let known = known-of eye unit shift plane c.is_front.result c.in_ok-nearness.nearness c.args.a.now c.args.b.now c.args.c.now p q r h
    c.in_ok-plane.ensures.thin (c.in_ok-plane.ensures.stands (unit * 2 ^ shift) p q r are) c.in_ok-nearness.ensures.stands
    c.is_front.ensures.a c.is_front.ensures.b c.is_front.ensures.c kept hp hq hr in
    let known-over = known-of eye unit shift over c.is_front-2.result c.in_ok-nearness_over.nearness_over c.args.a.now c.args.c.now c.args.d.now p r s h
    c.in_ok-over.ensures.thin (c.in_ok-over.ensures.stands (unit * 2 ^ shift) p r s are-over) c.in_ok-nearness_over.ensures.stands
    c.is_front-2.ensures.a c.is_front-2.ensures.b c.is_front-2.ensures.c (ap (keeps_turned eye.winding) one ∙ kept) hp hr hs in
    let first = c.of_edge.ensures.stands scale (cross p q) are.ab in
    let second = c.of_edge-2.ensures.stands scale (cross q r) are.bc in
    let third = c.of_edge-3.ensures.stands scale (cross r s) are-over.bc in
    let fourth = c.of_edge-4.ensures.stands scale (cross s p) are-over.ca in
    quad-stands eye unit shift plane over c.is_front.result c.is_front-2.result forms half p q r s first.0 second.0 third.0 fourth.0 refl one known known-over first.1 second.1 third.1 fourth.1
