use Rattle.std.proofs.Common.{w8, ◌∙◌}
use Rattle.std.proofs.lemmas.Simd.{length-swz_l}
use Rattle.edge_lanes.specs.declared.spans.TheConstants.{FROM}
use Rattle.edge_lanes.proofs.SpanBytes.{places_within, bits_from_at}
use Rattle.edge_lanes.proofs.spans.bytes_from.Goals as goal

pub swizzle : goal.swizzle
swizzle c = places_within c.args.numbers c.requires.long c.requires.within

pub returns-clause-long : goal.returns-clause-long
returns-clause-long c = length-swz_l w8 16 FROM 0 c.args.numbers ∙ c.requires.long

pub returns-clause-value : goal.returns-clause-value
returns-clause-value c = bits_from_at c.args.numbers c.requires.long c.requires.within
