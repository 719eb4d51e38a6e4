use Rattle.std.proofs.lemmas.Int.{to_z-of_z}
use Rattle.rect_query.proofs.Rising.{number_small, w_small, fits_small}
use Rattle.rect_query.proofs.ratio.is_less.Goals as goal

pub product-requires-clause-a_bounded : goal.product-requires-clause-a_bounded
product-requires-clause-a_bounded c =
    let small = number_small c.args.near.distance c.args.a c.args.near.most c.requires.a in
    let fits = fits_small c.args.a.number small in
    simp to_z-of_z small

pub product-requires-clause-b_bounded : goal.product-requires-clause-b_bounded
product-requires-clause-b_bounded c =
    let small = w_small c.args.near.distance c.args.b c.args.near.most c.requires.b in
    let fits = fits_small c.args.b.w small in
    simp to_z-of_z small

pub product-requires-2-clause-a_bounded : goal.product-requires-2-clause-a_bounded
product-requires-2-clause-a_bounded c =
    let small = number_small c.args.near.distance c.args.b c.args.near.most c.requires.b in
    let fits = fits_small c.args.b.number small in
    simp to_z-of_z small

pub product-requires-2-clause-b_bounded : goal.product-requires-2-clause-b_bounded
product-requires-2-clause-b_bounded c =
    let small = w_small c.args.near.distance c.args.a c.args.near.most c.requires.a in
    let fits = fits_small c.args.a.w small in
    simp to_z-of_z small
