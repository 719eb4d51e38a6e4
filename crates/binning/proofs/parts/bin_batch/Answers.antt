use Rattle.std.proofs.Common.{◌≡◌, ◌*◌, [], map, drop, length, ap, ◌∙◌, subst, arith}
use Rattle.std.specs.List.{range_with_len}
use Rattle.std.proofs.lemmas.Grind.{common_steps}
use Rattle.std.proofs.lemmas.List.{take_at}
use Rattle.std.proofs.lemmas.List.FromFn.{length-map-range_with_len}
use Rattle.binning.specs.Cut.{bin_count_of}
use Rattle.binning.specs.Parts.{part, parts_in}
use Rattle.binning.specs.Pushed.{GotIndices}
use Rattle.binning.proofs.Pushed.{got_all}
use Rattle.binning.proofs.parts.bin_batch.Goals as goal

pub fill-requires-clause-parts : goal.fill-requires-clause-parts
fill-requires-clause-parts c =
    ap length (c.as_mut_slice.ensures.value ∙ c.in_ok-parts.ensures) ∙ length-map-range_with_len (λ bin. part bin c.args.batch []) 0 c.bins.result
    ∙ c.bins.ensures.value ∙ ap bin_count_of (let e : c.args.cut.now ≡ c.of.result.cut = cc in e)

pub returns : goal.returns
returns c =
    let list = c.args.list.now.list in
    let cut = c.args.cut.now in
    let batch = c.args.batch in
    let old = c.as_mut_slice.result.now in
    let new = c.fill.new.parts in
    let empty : old ≡ map (λ bin. part bin batch []) (range_with_len 0 (bin_count_of cut)) =
    c.as_mut_slice.ensures.value ∙ c.in_ok-parts.ensures ∙ ap (λ n. map (λ bin. part bin batch []) (range_with_len 0 n)) c.bins.ensures.value in
    let got = subst (λ k. GotIndices list k c.args.from c.args.to old new) c.of.ensures.cut c.in_ok-fill.ensures in
    let is : new ≡ parts_in list cut batch c.args.from c.args.to = got_all list cut batch c.args.from c.args.to old new empty c.fill.auto.parts got in
    let len : length new ≡ c.in_ok-parts.parts.len = grind (arith, common_steps) in
    let whole = take_at new (drop (length new) c.in_ok-parts.parts.items) c.in_ok-parts.parts.len len in
    record {
      parts = whole ∙ is;
      defined = λ size some e f.
          whole ∙ is ∙ ap (λ n. parts_in list cut batch n c.args.to) e ∙ ap (λ n. parts_in list cut batch (batch * size) n) f;
    }
