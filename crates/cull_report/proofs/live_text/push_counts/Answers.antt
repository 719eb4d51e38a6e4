use Rattle.std.proofs.Common.{◌≡◌, ℕ, ◌+◌, ◌-◌, ◌<◌, ◌++◌, ◌∷◌, List, length, length-drop, take, drop, get_or, arith, sym, ap, ◌∙◌, append_assoc}
use Rattle.std.proofs.lemmas.List.{get_or-drop}
use Rattle.cull_report.specs.declared.live_line.TileCount.{TileCount}
use Rattle.cull_report.specs.Live.{tile_count, count_text}
use Rattle.cull_report.specs.LivePieces.{counts_text}
use Rattle.cull_report.proofs.LiveFields.{counts_text-push}
use Rattle.cull_report.proofs.live_text.push_counts.Goals as goal

pub loop-i-preserved : goal.loop-i-preserved
loop-i-preserved c =
    let counts = c.args.line.now.counts in
    let first = c.args.first in
    let k = c.loop-i.i - first in
    let none = tile_count 0 0 in
    let from = c.loop-i.auto.i in let places = c.requires.places in
    let lt : k < length (drop first counts) = omega (arith, length-drop first counts, from, places.1, c.loop-i-test.true) in
    let place : first + k ≡ c.loop-i.i = omega (arith, from) in
    let next : k + 1 ≡ c.loop-i.i + 1 - first = omega (arith, from) in
    let is : c.count_at.result ≡ get_or (drop first counts) k none = c.count_at.ensures none ∙ ap (λ (n : ℕ). get_or counts n none) (sym place) ∙ sym (get_or-drop first counts k none) in
    let so_far = counts_text (take k (drop first counts)) in
    record {
      text = c.push_count.ensures.value ∙ ap (λ (t : List ℕ). t ++ (32 ∷ count_text c.count_at.result)) c.loop-i.invariant.text ∙ append_assoc c.args.text.now so_far (32 ∷ count_text c.count_at.result)
          ∙ ap (λ (x : TileCount). c.args.text.now ++ (so_far ++ (32 ∷ count_text x))) is ∙ ap (λ (t : List ℕ). c.args.text.now ++ t) (sym (counts_text-push (drop first counts) k none lt))
          ∙ ap (λ (n : ℕ). c.args.text.now ++ counts_text (take n (drop first counts))) next;
      short = omega (arith, next, c.push_count.ensures.room, c.loop-i.invariant.short);
    }
