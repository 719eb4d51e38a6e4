use Rattle.std.proofs.Common.{ℕ, List, [], ◌∷◌, refl, sym, ap, ◌∙◌}
use Rattle.std.specs.Prelude.{slice_index_or}
use Rattle.masked_update.specs.TileOf.{sub_at}
use Rattle.masked_update.proofs.Merging.{eight_of}
use Rattle.tile_cells.proofs.words.tile_of.Goals as goal

pub returns : goal.returns
returns c t is e =
    let s0 = c.subtile_at.ensures t is e in
    let s1 = c.subtile_at-2.ensures t is e in
    let s2 = c.subtile_at-3.ensures t is e in
    let s3 = c.subtile_at-4.ensures t is e in
    let s4 = c.subtile_at-5.ensures t is e in
    let s5 = c.subtile_at-6.ensures t is e in
    let s6 = c.subtile_at-7.ensures t is e in
    let s7 = c.subtile_at-8.ensures t is e in
    let count = ap (λ (w : List ℕ). slice_index_or w 0 0) e in
    let subs = (λ i. s0 i ∷ s1 i ∷ s2 i ∷ s3 i ∷ s4 i ∷ s5 i ∷ s6 i ∷ s7 i ∷ []) ∙ sym (eight_of (sub_at t) t.subs is.eight (λ j lt. refl)) in
    c.of.ensures.value ∙ (λ i. record { subs = subs i; count = count i })
