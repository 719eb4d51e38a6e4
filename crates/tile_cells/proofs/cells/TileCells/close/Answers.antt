use Rattle.std.proofs.Common.{rules, ◌≡◌, ◌++◌, List, drop, length, sym, ◌∙◌, subst, take}
use Rattle.std.specs.Prelude.{slice_index_or}
use Rattle.tile_cells.specs.Cells.{Writing}
use Rattle.tile_cells.specs.Passes.{AreChecked, HearWithin, Hears}
use Rattle.tile_cells.proofs.Closing.{lent_back, states_on, seen_on}
use Rattle.tile_cells.proofs.cells.TileCells.close.Goals as goal

pub returns-clause-states : goal.returns-clause-states
returns-clause-states g c =
    let old = c.args.writers.items in
    let new = c.end_readers.new.writers in
    let len : length c.args.self ≡ c.args.writers.len = search rules in
    let same = subst (λ (l : List Writing). Hears l new) c.as_mut_slice.ensures.value c.end_readers.ensures.same in
    let back = lent_back c.args.writers.len new old (sym len ∙ sym c.requires.writers.whole ∙ sym same.whole) in
    let checked : AreChecked c.args.writers.len (take c.args.writers.len (new ++ drop (length new) old)) c.check_all.result.items = c.check_all.ensures.states in
    states_on c.args.self old new c.check_all.result.items c.requires.writers same
    (subst (λ n. AreChecked n new c.check_all.result.items) (sym len) (subst (λ (l : List Writing). AreChecked c.args.writers.len l c.check_all.result.items) back checked))

pub returns-clause-seen : goal.returns-clause-seen
returns-clause-seen g c k d kl =
    let old = c.args.writers.items in
    let new = c.end_readers.new.writers in
    let len : length c.args.self ≡ c.args.writers.len = search rules in
    let same = subst (λ (l : List Writing). Hears l new) c.as_mut_slice.ensures.value c.end_readers.ensures.same in
    let back = lent_back c.args.writers.len new old (sym len ∙ sym c.requires.writers.whole ∙ sym same.whole) in
    let heard : HearWithin c.args.writers.len (take c.args.writers.len (new ++ drop (length new) old)) = c.check_all.ensures.heard in
    seen_on c.args.self old new (slice_index_or c.args.readers.items k d) c.requires.writers same (c.end_readers.ensures.heard k d kl)
    (subst (λ n. HearWithin n new) (sym len) (subst (λ (l : List Writing). HearWithin c.args.writers.len l) back heard))
