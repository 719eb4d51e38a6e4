use Rattle.std.proofs.Common.{◌≡◌, ◌+◌, ◌∷◌, [], ◌++◌, Some, drop, take, map, length, arith, ap, sym, ◌∙◌, subst}
use Rattle.std.specs.Vec.Iter.{into_iter_items}
use Rattle.std.proofs.lemmas.List.{length-append, map-append, take_more}
use Rattle.tile_cells.specs.Cells.{Writing}
use Rattle.tile_cells.proofs.Lists.{turn}
use Rattle.tile_queues.proofs.tile_slots.into_slots.Goals as goal

pub loop-writer-preserved : goal.loop-writer-preserved
loop-writer-preserved c =
    let i = c.loop-writer.invariant in
    let s = c.in-Some.ensures.steps in
    let slots = c.loop-writer.slots.items in
    let n = length slots in
    let w = c.in-Some.writer in
    let ws = c.args.writers.items in
    let t = turn ws n w _ (sym i.2 ∙ s.0) in
    let items = c.push_reserved.ensures.items in
    let more : length c.push_reserved.new.self.items ≡ n + 1 = ap length items ∙ length-append slots (Some w ∷ []) in
    let next : take (n + 1) ws ≡ take n ws ++ w ∷ [] = take_more ws n w t.2 ∙ ap (λ (z : Writing). take n ws ++ z ∷ []) (sym t.1) in (
      tt,
      tt,
      subst (λ k. into_iter_items c.next.new.self ≡ drop k ws) (sym more) t.0,
      omega (arith, i.3, s.1, more),
      items ∙ ap (λ l. l ++ Some w ∷ []) i.4 ∙ sym (map-append (λ (z : Writing). Some z) (take n ws) (w ∷ [])) ∙ ap (map (λ (z : Writing). Some z)) (sym next) ∙ ap (λ k. map (λ (z : Writing). Some z) (take k ws)) (sym more),
      omega (arith, i.5, c.push_reserved.ensures.capacity),
    )

pub returns : goal.returns
returns c =
    let i = c.loop-writer.invariant in
    let none = c.in-None.ensures.steps.0 in
    i.4 ∙ ap (map (λ (z : Writing). Some z)) (Rattle.std.proofs.lemmas.List.take_all (length c.loop-writer.slots.items) c.args.writers.items (omega (arith, i.3, none)))
