use Rattle.std.proofs.Common.{◌≡◌, ◌∙◌, ap, refl, sym}
use Rattle.std.specs.Simd.Lanes.{mask_l}
use Rattle.std.proofs.lemmas.Nat.Bits.{shr_and_one}
use Rattle.cull_base.specs.State.{no_samples, samples_of}
use Rattle.edge_lanes.proofs.tile_edges.TileEdges.mask_among.Goals as goal

mask_of_none : mask_l no_samples ≡ 0
unfolding samples_of
mask_of_none = refl

pub returns-then-candidates-j-eq0-clause-value : goal.returns-then-candidates-j-eq0-clause-value
returns-then-candidates-j-eq0-clause-value c =
    let bit = sym (shr_and_one c.args.candidates c.args.j) ∙ c.if-candidates-j-eq0.true in
    sym (ap mask_l (c.requires.candidates c.args.j c.requires.j bit) ∙ mask_of_none)

pub returns-then-candidates-j-eq0-clause-samples : goal.returns-then-candidates-j-eq0-clause-samples
returns-then-candidates-j-eq0-clause-samples c =
    let bit = sym (shr_and_one c.args.candidates c.args.j) ∙ c.if-candidates-j-eq0.true in
    sym (c.requires.candidates c.args.j c.requires.j bit)
