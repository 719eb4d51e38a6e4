use Rattle.std.proofs.Common.{rules, ◌≡◌, ◌+◌, ◌*◌, ◌^◌, [], ◌∷◌, ap, ◌∙◌}
use Rattle.masked_update.specs.Packing.{packed}
use Rattle.tile_cells.proofs.words.words_of.Goals as goal

pub returns-clause-value : goal.returns-clause-value
returns-clause-value c =
    let count : c.from.result ≡ c.args.state.now.count = search rules in
    let p0 = c.pack-first.ensures.value ∙ ap packed c.sub.ensures.value in
    let p1 = c.pack-second.ensures.value ∙ ap packed c.sub-2.ensures.value in
    let p2 = c.pack-third.ensures.value ∙ ap packed c.sub-3.ensures.value in
    let p3 = c.pack-fourth.ensures.value ∙ ap packed c.sub-4.ensures.value in
    let p4 = c.pack-fifth.ensures.value ∙ ap packed c.sub-5.ensures.value in
    let p5 = c.pack-sixth.ensures.value ∙ ap packed c.sub-6.ensures.value in
    let p6 = c.pack-seventh.ensures.value ∙ ap packed c.sub-7.ensures.value in
    let p7 = c.pack-eighth.ensures.value ∙ ap packed c.sub-8.ensures.value in
    let m0 = c.paired.ensures ∙ (λ i. (p0 i).1 + 2 ^ 32 * (p1 i).1) in
    let m1 = c.paired-2.ensures ∙ (λ i. (p2 i).1 + 2 ^ 32 * (p3 i).1) in
    let m2 = c.paired-3.ensures ∙ (λ i. (p4 i).1 + 2 ^ 32 * (p5 i).1) in
    let m3 = c.paired-4.ensures ∙ (λ i. (p6 i).1 + 2 ^ 32 * (p7 i).1) in
    λ i. count i ∷ (p0 i).0 ∷ (p1 i).0 ∷ (p2 i).0 ∷ (p3 i).0 ∷ (p4 i).0 ∷ (p5 i).0 ∷ (p6 i).0 ∷ (p7 i).0 ∷ m0 i ∷ m1 i ∷ m2 i ∷ m3 i ∷ []
