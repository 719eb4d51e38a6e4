use Rattle.std.proofs.Common.{◌≡◌, ℕ, ◌<◌, List, length, arith, refl, sym, ap, ◌∙◌, subst}
use Rattle.std.specs.Prelude.{IfSome, nat_lt, slice_get, slice_index}
use Rattle.std.proofs.lemmas.Bool.{lt-ltb}
use Rattle.std.proofs.lemmas.List.{get_or_default}
use Rattle.cull_base.specs.declared.scene_types.Object.{Object}
use Rattle.cull_base.specs.declared.scene_types.Object.TheVariants.{Mesh}
use Rattle.cull_base.specs.declared.scene_types.Verdict.{Verdict}
use Rattle.cull_base.specs.Screen.{Dimensions, tile_count_of}
use Rattle.cull_base.specs.Span.{IsSpan}
use Rattle.cull_base.specs.Tiles.{PieceList, tile_list}
use Rattle.scene_reader.specs.Layout.{Parts}
use Rattle.masked_update.specs.Views.{HoldsMet}
use Rattle.masked_update.specs.TileOf.{TileOf, tile_at}
use Rattle.cull_report.specs.Live.{object_at, prefixed_verdict}
use Rattle.cull_report.specs.Scene.{frame_list, object_area, size_of, verdict_in}
use Rattle.cull_report.proofs.Forms.{at_place, from_place}
use Rattle.live_check.specs.Standing.{count_at}
use Rattle.live_check.specs.Waiting.{Came, NeverComes}
use Rattle.live_check.proofs.LineParts.{in_span, line_comes, never_behind, never_longer, never_newline, never_other, never_past, never_stated, never_verdict, never_word, verdict_there}
use Rattle.live_check.proofs.Texts.{front_of_line, line_parts}
use Rattle.live_check.proofs.line.takes_line.Goals as goal

-- a frame's list is of the scene's screen
list_size : (s : Parts) (frame : ℕ) → (frame_list s frame).size ≡ size_of s
unfolding frame_list
list_size s frame = refl

-- the head doesn't come
pub returns-then-not-branch-clause-no : goal.returns-then-not-branch-clause-no
returns-then-not-branch-clause-no g c _ k fits =
    let f = c.args.frame.now in
    let head = front_of_line f.number c.args.round c.args.object in
    let never = subst (NeverComes _) (c.as_slice.ensures ∙ c.head_of.ensures) (c.in_ok-takes_text.ensures.other c.if-not-branch.true) in
    subst (NeverComes _) (sym (line_parts f.scene.now f.number c.args.round c.args.object k)) (never_longer _ head _ never)

-- no verdict comes
pub returns-in_default-clause-no : goal.returns-in_default-clause-no
returns-in_default-clause-no g c _ k fits =
    let f = c.args.frame.now in
    let head = front_of_line f.number c.args.round c.args.object in
    let came = subst (Came _ _) (c.as_slice.ensures ∙ c.head_of.ensures) (c.in_ok-takes_text.ensures.came c.if-not-branch.false) in
    subst (NeverComes _) (sym (line_parts f.scene.now f.number c.args.round c.args.object k))
    (never_behind _ _ head _ came (never_verdict _ (prefixed_verdict f.scene.now f.number k c.args.object) _ (rw c.in_default.is at c.in_ok-verdict.ensures.only)))

pub state-requires : goal.state-requires
state-requires g c =
    let f = c.args.frame.now in let s = f.scene.now in
    let size = c.requires.standing.size ∙ ap (λ (l : PieceList). l.size) f.laid.list_is ∙ list_size s f.number in
    subst (λ (d : Dimensions). IsSpan d c.args.span.now) (sym size) c.requires.within

-- the fields don't come
pub returns-then-not-branch-2-clause-no : goal.returns-then-not-branch-2-clause-no
returns-then-not-branch-2-clause-no g c _ k fits =
    let f = c.args.frame.now in let s = f.scene.now in
    let head = front_of_line f.number c.args.round c.args.object in
    let came = subst (Came _ _) (c.as_slice.ensures ∙ c.head_of.ensures) (c.in_ok-takes_text.ensures.came c.if-not-branch.false) in
    let size = c.requires.standing.size ∙ ap (λ (l : PieceList). l.size) f.laid.list_is ∙ list_size s f.number in
    subst (NeverComes _) (sym (line_parts s f.number c.args.round c.args.object k))
    (never_behind _ _ head _ came (never_word _ _ c.in-Some.verdict (prefixed_verdict s f.number k c.args.object) _ (rw c.in-Some.is at c.in_ok-verdict.ensures.came)
    (λ same. never_stated s f.number c.args.object c.args.span.now c.args.tiles.now size c.requires.span k f.laid.scene fits _ (c.in_ok-state.ensures.no c.if-not-branch-2.true))))

-- the newline doesn't come
pub returns-then-not-branch-3-clause-no : goal.returns-then-not-branch-3-clause-no
returns-then-not-branch-3-clause-no g c _ k fits =
    let f = c.args.frame.now in let s = f.scene.now in
    let head = front_of_line f.number c.args.round c.args.object in
    let came = subst (Came _ _) (c.as_slice.ensures ∙ c.head_of.ensures) (c.in_ok-takes_text.ensures.came c.if-not-branch.false) in
    let size = c.requires.standing.size ∙ ap (λ (l : PieceList). l.size) f.laid.list_is ∙ list_size s f.number in
    let fields = c.in_ok-state.ensures.yes c.if-not-branch-2.false in
    subst (NeverComes _) (sym (line_parts s f.number c.args.round c.args.object k))
    (never_behind _ _ head _ came (never_word _ _ c.in-Some.verdict (prefixed_verdict s f.number k c.args.object) _ (rw c.in-Some.is at c.in_ok-verdict.ensures.came)
    (λ same. never_newline s f.number c.args.object c.args.span.now c.args.tiles.now size c.requires.span k f.laid.scene fits _ _ _ fields.came fields.only (c.in_ok-takes_text-2.ensures.other c.if-not-branch-3.true))))

pub advance-requires : goal.advance-requires
advance-requires g c =
    let f = c.args.frame.now in let s = f.scene.now in
    let stays = c.in_ok-state.ensures.stays in
    let fields = c.in_ok-state.ensures.yes c.if-not-branch-2.false in
    record {
      standing = record {
        size = stays.size ∙ c.requires.standing.size;
        each = λ t lt. rw (stays.states, stays.behind) (c.requires.standing.each t lt);
      };
      span = rw (stays.size ∙ c.requires.standing.size ∙ ap (λ (l : PieceList). l.size) f.laid.list_is ∙ list_size s f.number) c.requires.within;
      rise = λ t within. rw stays.states (fields.may t (rw stays.size at within)).0;
    }

-- a count is past its list
pub returns-then-not-advance-clause-no : goal.returns-then-not-advance-clause-no
returns-then-not-advance-clause-no g c _ k fits =
    let f = c.args.frame.now in let s = f.scene.now in
    let head = front_of_line f.number c.args.round c.args.object in
    let came = subst (Came _ _) (c.as_slice.ensures ∙ c.head_of.ensures) (c.in_ok-takes_text.ensures.came c.if-not-branch.false) in
    let size = c.requires.standing.size ∙ ap (λ (l : PieceList). l.size) f.laid.list_is ∙ list_size s f.number in
    let fields = c.in_ok-state.ensures.yes c.if-not-branch-2.false in
    let (t, within, past) = c.advance.ensures.past c.if-not-advance.true in
    subst (NeverComes _) (sym (line_parts s f.number c.args.round c.args.object k))
    (never_behind _ _ head _ came (never_word _ _ c.in-Some.verdict (prefixed_verdict s f.number k c.args.object) _ (rw c.in-Some.is at c.in_ok-verdict.ensures.came)
    (λ same. never_past s f.number c.args.object c.args.span.now c.args.tiles.now size c.requires.span k f.laid.scene fits _ _ t fields.only (rw c.in_ok-state.ensures.stays.size at within)
    (subst (λ (l : PieceList). length (tile_list t l) < slice_index c.state.new.self.stated t) f.laid.list_is past))))

pub object_verdict-seen-requires : goal.object_verdict-seen-requires
object_verdict-seen-requires g c =
    let f = c.args.frame.now in let s = f.scene.now in
    let there = object_at s c.args.object in
    let whole = c.states.ensures.whole in
    let size = c.advance.ensures.standing.size ∙ ap (λ (l : PieceList). l.size) f.laid.list_is ∙ list_size s f.number in
    let held = λ (t : ℕ). nat_lt t (length c.new-view.result.states.now) in
    record {
      frame = f.laid.is_frame;
      clips = f.laid.clips_are;
      object = c.requires.object;
      holds = at_place (λ o. HoldsMet held (size_of s) (object_area s f.number o)) s.objects c.args.object there c.requires.object (get_or_default s.objects c.args.object (Mesh 0 0) there c.requires.object)
          (λ t lt met. lt-ltb t (length c.new-view.result.states.now) (omega (arith, lt, whole.states, ap length (c.new-view.ensures ∙ c.states.ensures.states), ap tile_count_of size)));
    }

-- the verdict over the states that a view has
seen_there : (s : Parts) (frame object : ℕ) (seen : Verdict) (viewed states : List TileOf) → viewed ≡ states → object < length s.objects
    → IfSome (slice_get s.objects object) (λ o. seen ≡ verdict_in s frame (λ t. tile_at viewed t) o) → seen ≡ verdict_in s frame (λ t. tile_at states t) (object_at s object)
seen_there s frame object seen viewed states same lt answered =
    from_place (λ (o : Object). seen ≡ verdict_in s frame (λ t. tile_at states t) o) s.objects object (Mesh 0 0) lt
    (subst (λ (ts : List TileOf). IfSome (slice_get s.objects object) (λ o. seen ≡ verdict_in s frame (λ t. tile_at ts t) o)) same answered)

-- the verdict, whether it is the line's or not
pub returns-clause-no : goal.returns-clause-no
returns-clause-no g c other k fits =
    let f = c.args.frame.now in let s = f.scene.now in
    let head = front_of_line f.number c.args.round c.args.object in
    let came = subst (Came _ _) (c.as_slice.ensures ∙ c.head_of.ensures) (c.in_ok-takes_text.ensures.came c.if-not-branch.false) in
    let size = c.requires.standing.size ∙ ap (λ (l : PieceList). l.size) f.laid.list_is ∙ list_size s f.number in
    let fields = c.in_ok-state.ensures.yes c.if-not-branch-2.false in
    let moved = c.advance.ensures.moved c.if-not-advance.false in
    let list = f.list.now.list in
    let answered = seen_there s f.number c.args.object c.object_verdict-seen.result c.new-view.result.states.now c.advance.new.self.states (c.new-view.ensures ∙ c.states.ensures.states) c.requires.object c.object_verdict-seen.ensures.verdict in
    subst (NeverComes _) (sym (line_parts s f.number c.args.round c.args.object k))
    (never_behind _ _ head _ came (never_word _ _ c.in-Some.verdict (prefixed_verdict s f.number k c.args.object) _ (rw c.in-Some.is at c.in_ok-verdict.ensures.came)
    (λ same. never_other s f.number c.args.object c.args.span.now c.args.tiles.now size c.requires.span k f.laid.scene fits _ _ fields.only (λ agree.
    c.is_same.ensures.no other
    (verdict_there s f.number c.args.object list c.advance.new.self k c.object_verdict-seen.result f.laid.scene f.laid.list_is (ap (λ (l : PieceList). l.size) f.laid.list_is ∙ list_size s f.number) c.advance.ensures.standing
    (λ t stated. agree t stated ∙ sym (moved.stated t (in_span s f.number c.args.object c.args.span.now c.state.new.self (c.in_ok-state.ensures.stays.size ∙ size) c.requires.span t stated))) answered ∙ sym same)))))

pub returns-clause-yes : goal.returns-clause-yes
returns-clause-yes g c is =
    let f = c.args.frame.now in let s = f.scene.now in
    let came = subst (Came _ _) (c.as_slice.ensures ∙ c.head_of.ensures) (c.in_ok-takes_text.ensures.came c.if-not-branch.false) in
    let size = c.requires.standing.size ∙ ap (λ (l : PieceList). l.size) f.laid.list_is ∙ list_size s f.number in
    let moved = c.advance.ensures.moved c.if-not-advance.false in
    let stays = c.in_ok-state.ensures.stays in
    let answered = seen_there s f.number c.args.object c.object_verdict-seen.result c.new-view.result.states.now c.advance.new.self.states (c.new-view.ensures ∙ c.states.ensures.states) c.requires.object c.object_verdict-seen.ensures.verdict in
    let list_is_of = ap (λ (l : PieceList). l.size) f.laid.list_is ∙ list_size s f.number in
    line_comes s f.number c.args.round c.args.object c.args.span.now f.list.now.list c.args.tiles.now c.state.new.self c.advance.new.self c.in-Some.verdict _ _ _ _ _ f.laid.scene size c.requires.span f.laid.list_is list_is_of
    c.advance.ensures.standing came (rw c.in-Some.is at c.in_ok-verdict.ensures.came) (c.in_ok-state.ensures.yes c.if-not-branch-2.false) (λ i t. (tile_at (stays.states i) t).count) stays.size
    (c.in_ok-takes_text-2.ensures.came c.if-not-branch-3.false) moved
    (sym (c.is_same.ensures.yes is) ∙ verdict_there s f.number c.args.object f.list.now.list c.advance.new.self (count_at c.advance.new.self) c.object_verdict-seen.result f.laid.scene f.laid.list_is list_is_of c.advance.ensures.standing (λ t stated. refl) answered)
