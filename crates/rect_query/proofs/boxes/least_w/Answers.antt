use Rattle.std.proofs.lemmas.Int.{to_z-of_z}
use Rattle.rect_query.proofs.Reaching.{least_w_of, fits_wide}
use Rattle.rect_query.proofs.boxes.least_w.Goals as goal

pub overflow_cast-result : goal.overflow_cast-result
overflow_cast-result c =
    let k = least_w_of c.args.near.distance c.args.corners.now c.args.reach.now c.args.near.most c.requires.reach c.requires.some c.requires.guarded c.requires.front in
    let wide = fits_wide c.args.reach.now.w.least k.fits in
    simp to_z-of_z k.fits

pub returns-clause-value : goal.returns-clause-value
returns-clause-value c =
    let k = least_w_of c.args.near.distance c.args.corners.now c.args.reach.now c.args.near.most c.requires.reach c.requires.some c.requires.guarded c.requires.front in
    let fits = k.fits in let wide = fits_wide c.args.reach.now.w.least k.fits in
    simp to_z-of_z k.value

pub returns-clause-front : goal.returns-clause-front
returns-clause-front c =
    let k = least_w_of c.args.near.distance c.args.corners.now c.args.reach.now c.args.near.most c.requires.reach c.requires.some c.requires.guarded c.requires.front in
    let fits = k.fits in let wide = fits_wide c.args.reach.now.w.least k.fits in
    simp to_z-of_z k.front
