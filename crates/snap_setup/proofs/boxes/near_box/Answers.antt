use Rattle.std.proofs.Common.{rules, ap, length, arith}
use Rattle.std.proofs.lemmas.Int.{to_z-of_z}
use Rattle.near_clip.specs.NearPart.{corner}
use Rattle.snap_setup.proofs.BoxSteps.{box_none, box_three, box_four, coordinate_fits}
use Rattle.snap_setup.proofs.boxes.near_box.Goals as goal

pub place_of-p0-requires-clause-reach : goal.place_of-p0-requires-clause-reach
place_of-p0-requires-clause-reach c = search rules

pub place_of-p1-requires-clause-reach : goal.place_of-p1-requires-clause-reach
place_of-p1-requires-clause-reach c = search rules

pub place_of-p2-requires-clause-reach : goal.place_of-p2-requires-clause-reach
place_of-p2-requires-clause-reach c = search rules

pub place_of-p3-requires-clause-reach : goal.place_of-p3-requires-clause-reach
place_of-p3-requires-clause-reach c = search rules

pub returns-then-len-eq0-clause-value : goal.returns-then-len-eq0-clause-value
returns-then-len-eq0-clause-value c =
    let v = c.args.tri.now in
    box_none (corner v 0) (corner v 1) (corner v 2) c.args.near c.args.size c.clip_near-polygon.result c.clip_near-polygon.ensures.value (omega (arith, c.len.ensures.value, c.if-len-eq0.true))

pub returns-then-len-eq3-clause-none : goal.returns-then-len-eq3-clause-none
returns-then-len-eq3-clause-none c = (
  λ e. absurd (cc),
  λ h. let empty = c.clip_near-polygon.ensures.empty.1 h in absurd (omega (arith, ap length empty, c.len.ensures.value, c.if-len-eq0.false)),
)

pub returns-then-len-eq3-clause-value : goal.returns-then-len-eq3-clause-value
returns-then-len-eq3-clause-value c =
    let v = c.args.tri.now in
    let p = c.place_of-p0 in let q = c.place_of-p1 in let r = c.place_of-p2 in
    let fpx = coordinate_fits p.result.x p.ensures.x_within in let fpy = coordinate_fits p.result.y p.ensures.y_within in
    let fqx = coordinate_fits q.result.x q.ensures.x_within in let fqy = coordinate_fits q.result.y q.ensures.y_within in
    let frx = coordinate_fits r.result.x r.ensures.x_within in let fry = coordinate_fits r.result.y r.ensures.y_within in
    box_three (corner v 0) (corner v 1) (corner v 2) c.args.near c.args.size c.clip_near-polygon.result
    c.get.result c.get-2.result c.get-3.result p.result q.result r.result c.of_three-across.result c.of_three-down.result c.rect_between.result
    c.clip_near-polygon.ensures.value (omega (arith, c.len-2.ensures.value, c.if-len-eq3.true))
    c.get.ensures c.get-2.ensures c.get-3.ensures p.ensures.value q.ensures.value r.ensures.value
    (record { least = simp to_z-of_z at c.of_three-across.ensures.least; greatest = simp to_z-of_z at c.of_three-across.ensures.greatest })
    (record { least = simp to_z-of_z at c.of_three-down.ensures.least; greatest = simp to_z-of_z at c.of_three-down.ensures.greatest })
    c.rect_between.ensures

pub returns-clause-value : goal.returns-clause-value
returns-clause-value c =
    let v = c.args.tri.now in
    let p = c.place_of-p0 in let q = c.place_of-p1 in let r = c.place_of-p2 in let s = c.place_of-p3 in
    let fpx = coordinate_fits p.result.x p.ensures.x_within in let fpy = coordinate_fits p.result.y p.ensures.y_within in
    let fqx = coordinate_fits q.result.x q.ensures.x_within in let fqy = coordinate_fits q.result.y q.ensures.y_within in
    let frx = coordinate_fits r.result.x r.ensures.x_within in let fry = coordinate_fits r.result.y r.ensures.y_within in
    let fsx = coordinate_fits s.result.x s.ensures.x_within in let fsy = coordinate_fits s.result.y s.ensures.y_within in
    box_four (corner v 0) (corner v 1) (corner v 2) c.args.near c.args.size c.clip_near-polygon.result
    c.get.result c.get-2.result c.get-3.result c.get-4.result p.result q.result r.result s.result
    c.of_three-across.result c.of_three-down.result c.with.result c.with-2.result c.rect_between-2.result
    c.clip_near-polygon.ensures.value
    (omega (arith, c.len.ensures.value, c.len.ensures.most, c.len.ensures.not_one, c.len.ensures.not_two, c.if-len-eq0.false, c.len-2.ensures.value, c.if-len-eq3.false))
    c.get.ensures c.get-2.ensures c.get-3.ensures c.get-4.ensures p.ensures.value q.ensures.value r.ensures.value s.ensures.value
    (record { least = simp to_z-of_z at c.of_three-across.ensures.least; greatest = simp to_z-of_z at c.of_three-across.ensures.greatest })
    (record { least = simp to_z-of_z at c.of_three-down.ensures.least; greatest = simp to_z-of_z at c.of_three-down.ensures.greatest })
    (record { least = simp to_z-of_z at c.with.ensures.least; greatest = simp to_z-of_z at c.with.ensures.greatest })
    (record { least = simp to_z-of_z at c.with-2.ensures.least; greatest = simp to_z-of_z at c.with-2.ensures.greatest })
    c.rect_between-2.ensures
