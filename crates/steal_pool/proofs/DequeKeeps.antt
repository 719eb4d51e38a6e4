-- Each kind of step keeps the rule of a worker's deque.
use Rattle.std.proofs.Common.{◌≡◌, ◌≢◌, inr, ⊎_elim, ℕ, zero, suc, ◌+◌, ◌-◌, ◌≤◌, ◌<◌, List, [], ◌∷◌, ◌++◌, map, length, set, refl, sym, ap, ◌∙◌, subst, append_assoc, append-nil, length-append, arith}
use mathlib.Core.Option.{some, some-ne-none, some-injective}
use lib.ListN.{get_elem?}
use Rattle.std.proofs.lemmas.List.{map-append}
use Rattle.std.proofs.lemmas.List.Elements.{All-push, All-tail, All-head, All-nil}
use Rattle.crossbeam_deque.specs.Tasks.{Pushes, Takes, Finds, FindsFew, Forks, Merges}
use Rattle.atomic_table.proofs.Lists.{at_longer, at_set, at_snoc}
use Rattle.bin_queues.specs.Tasks.{Tasking}
use Rattle.steal_pool.specs.declared.deque_rule.Call.{Call}
use Rattle.steal_pool.specs.declared.deque_rule.Role.{Role}
use Rattle.steal_pool.specs.declared.deque_rule.Role.TheVariants.{Unnamed, Owns, Steals, Ended}
use Rattle.steal_pool.specs.declared.deque_rule.View.{View}
use Rattle.steal_pool.specs.DequeRule.{weigh, places, nameless, owning, ended, with_taken, steals_as, out_of, taken_weighs, FitsAs, Fits, HasOwner, IsToldIn, Running, DequeRule, Pushed, TookOne, Took, IsShort, LooksEmpty, lending, lent, returned}
use Rattle.steal_pool.proofs.Weights.{weigh_append, weigh_one, weigh_set, weigh_at, weigh_alone, weigh_length, weigh_places, places_length}

abbrev IsUnnamed : Role → Type 0
IsUnnamed Unnamed = Unit {0}
IsUnnamed Owns = ⊥
IsUnnamed Steals = ⊥
IsUnnamed Ended = ⊥

-- who takes
abbrev Takes_as : Role → Type 0
Takes_as Unnamed = ⊥
Takes_as Owns = Unit {0}
Takes_as Steals = Unit {0}
Takes_as Ended = ⊥

abbrev bins : List Tasking → List ℕ
bins items = map (λ (t : Tasking). t.of.bin) items

-- the one view of a new deque
only : (views : List View) (by : ℕ) (v : View) → views ≡ nameless ∷ [] → get_elem? views by ≡ some v → nameless ≡ v
only views by v is at = go by (subst (λ (l : List View). get_elem? l by ≡ some v) is at)
  where
    go : (by : ℕ) → get_elem? (nameless ∷ []) by ≡ some v → nameless ≡ v
    go zero e = some-injective _ _ e
    go (suc by) e = absurd (some-ne-none v (sym e))

-- a deque of which a view knows its name
named : {X : Type 0} (items : List Tasking) (views : List View) (by : ℕ) (v : View) → (IsUnnamed v.role → ⊥) → get_elem? views by ≡ some v → DequeRule items views
    → ((c : Call) (gone : List ℕ) → Running items views c gone → X) → X
named items views by v not at kept then =
    ⊎_elim (λ (n : (items ≡ []) × (views ≡ nameless ∷ [])). absurd (not (subst (λ (u : View). IsUnnamed u.role) (only views by v n.1 at) tt)))
    (λ (r : (c : Call) × (gone : List ℕ) × Running items views c gone). then r.0 r.1 r.2) kept

fits_set : (c : Call) (pushed : List ℕ) (out : ℕ) (views : List View) (by : ℕ) (w : View) → ((j : ℕ) (u : View) → j ≢ by → get_elem? views j ≡ some u → Fits c pushed out j u) → Fits c pushed out by w
    → (j : ℕ) (u : View) → get_elem? (set views by w) j ≡ some u → Fits c pushed out j u
fits_set c pushed out views by w others mine j u e =
    ⊎_elim
    (λ (x : (j ≡ by) × (w ≡ u)). subst (λ (y : ℕ × View). Fits c pushed out y.0 y.1) (λ i. (sym x.0 i, x.1 i)) mine)
    (λ (x : (j ≢ by) × (get_elem? views j ≡ some u)). others j u x.0 x.1)
    (at_set views by j w u e)

-- the owner's view stays where it is
owner_set : (views : List View) (by : ℕ) (v w : View) → get_elem? views by ≡ some v → (v.role ≡ Owns → w.role ≡ Owns) → HasOwner views → HasOwner (set views by w)
owner_set [] by v w at keeps has = has
owner_set (x ∷ xs) zero v w at keeps has = (w, refl, keeps (ap (λ (u : View). u.role) (sym (some-injective x v at) ∙ some-injective x has.0 has.1) ∙ has.2))
owner_set (x ∷ xs) (suc by) v w at keeps has = has

owner_beside : (views : List View) (other : ℕ) (w : View) → other ≢ 0 → HasOwner views → HasOwner (set views other w)
owner_beside [] other w ne has = has
owner_beside (x ∷ xs) zero w ne has = absurd (ne refl)
owner_beside (x ∷ xs) (suc other) w ne has = has

owner_longer : (views more : List View) → HasOwner views → HasOwner (views ++ more)
owner_longer views more has = (has.0, at_longer views more 0 has.0 has.1, has.2)

-- a view that isn't the owner's says nothing of what was pushed, nor of how many are out
other_as : (r : Role) (c : Call) (p p' : List ℕ) (o o' j : ℕ) (u : View) → j ≢ 0 → FitsAs r c p o j u → FitsAs r c p' o' j u
other_as Unnamed c p p' o o' j u ne f = f
other_as Owns c p p' o o' j u ne f = absurd (ne f.0)
other_as Steals c p p' o o' j u ne f = f
other_as Ended c p p' o o' j u ne f = f

-- a view that takes: of this call, and it still fits with another list
takes_of : (r : Role) (c : Call) (p : List ℕ) (o by : ℕ) (v : View) → Takes_as r → FitsAs r c p o by v → v.of ≡ c
takes_of Unnamed c p o by v t f = absurd t
takes_of Owns c p o by v t f = ap (λ (u : View). u.of) f.1
takes_of Steals c p o by v t f = ap (λ (u : View). u.of) f
takes_of Ended c p o by v t f = absurd t

takes_on : (r : Role) (c : Call) (p : List ℕ) (o by : ℕ) (v : View) (l : List (ℕ × ℕ)) → Takes_as r → FitsAs r c p o by v → FitsAs r c p o by (with_taken v l)
takes_on Unnamed c p o by v l t f = absurd t
takes_on Owns c p o by v l t f = (f.0, ap (λ (u : View). with_taken u l) f.1)
takes_on Steals c p o by v l t f = ap (λ (u : View). with_taken u l) f
takes_on Ended c p o by v l t f = absurd t

takes_named : (r : Role) → Takes_as r → IsUnnamed r → ⊥
takes_named Unnamed t u = t
takes_named Owns t u = u
takes_named Steals t u = u
takes_named Ended t u = t

-- the list of a view is no longer than all that were taken
taken_short : (views : List View) (by : ℕ) (v : View) (gone : List ℕ) → get_elem? views by ≡ some v → ((h : ℕ × ℕ → ℕ) → taken_weighs h views ≡ weigh h (places 0 gone)) → length v.taken ≤ length gone
taken_short views by v gone at once =
    let one : ℕ × ℕ → ℕ = λ (p : ℕ × ℕ). 1 in
    let a = weigh_at (λ (u : View). weigh one u.taken) views by v at in
    let b = once one in
    let d = weigh_length v.taken in
    let e = weigh_length (places 0 gone) in
    let f = places_length 0 gone in
    omega arith

took : (by : ℕ) (v : View) (x : Tasking) (items : List Tasking) (views : List View) → Takes_as v.role → DequeRule (x ∷ items) views → get_elem? views by ≡ some v
    → (w : View) × DequeRule items (set views by w) × TookOne v x w
took by v x items views may kept at =
    named (x ∷ items) views by v (takes_named v.role may) at kept
    (λ c gone run.
    let l : List (ℕ × ℕ) = v.taken ++ (length gone, x.of.bin) ∷ [] in
    let w : View = with_taken v l in
    let is : v.of ≡ c = takes_of v.role c _ _ by v may (run.fit by v at) in
    let p : gone ++ bins (x ∷ items) ≡ (gone ++ x.of.bin ∷ []) ++ bins items = sym (append_assoc gone (x.of.bin ∷ []) (bins items)) in
    let o : out_of views ≡ out_of (set views by w) = let s = weigh_set (λ (u : View). steals_as u.role) views by v w at in omega arith in
    let short = taken_short views by v gone at run.once in
    let room : length gone + suc (length items) ≤ c.room = run.within in (
      w,
      inr (
        c,
        gone ++ x.of.bin ∷ [],
        record {
          within = let e = length-append gone (x.of.bin ∷ []) in omega arith;
          told = All-tail (IsToldIn c) x items run.told;
          owner = owner_set views by v w at (λ r. r) run.owner;
          once = λ h.
              let s = weigh_set (λ (u : View). weigh h u.taken) views by v w at in
              let m = weigh_one h v.taken (length gone, x.of.bin) in
              let q = weigh_places h 0 gone x.of.bin in
              let z : h (0 + length gone, x.of.bin) ≡ h (length gone, x.of.bin) = ap (λ (n : ℕ). h (n, x.of.bin)) (omega arith) in
              let r = run.once h in
              omega arith;
          fit = fits_set c _ _ views by w
              (λ j u ne e. subst (λ (y : List ℕ × ℕ). Fits c y.0 y.1 j u) (λ i. (p i, o i)) (run.fit j u e))
              (subst (λ (y : List ℕ × ℕ). Fits c y.0 y.1 by w) (λ i. (p i, o i)) (takes_on v.role c _ _ by v l may (run.fit by v at)));
        },
      ),
      record {
        place = length gone;
        view = refl;
        told = subst (λ (d : Call). IsToldIn d x) (sym is) (All-head (IsToldIn c) x items run.told);
        room = subst (λ (d : Call). length v.taken < d.room) (sym is) (omega arith);
      },
    ))

takes : (by : ℕ) (v : View) → Takes_as v.role → Takes DequeRule by v 1 (Took v)
takes by v may [] items views some_there few kept at = absurd (omega arith)
takes by v may (x ∷ []) items views some_there few kept at = took by v x items views may kept at
takes by v may (x ∷ y ∷ xs) items views some_there few kept at = absurd (omega arith)

pub pops : (by : ℕ) (v : View) → v.role ≡ Owns → Takes DequeRule by v 1 (Took v)
pops by v is = takes by v (subst Takes_as (sym is) tt)

pub steals : (by : ℕ) (v : View) → v.role ≡ Steals → Takes DequeRule by v 1 (Took v)
steals by v is = takes by v (subst Takes_as (sym is) tt)

-- what the owner's view says of a named deque
owns : (c : Call) (pushed : List ℕ) (out by : ℕ) (v : View) → v.role ≡ Owns → Fits c pushed out by v → (by ≡ 0) × (v ≡ owning c pushed v.taken out)
owns c pushed out by v is f = subst (λ (r : Role). FitsAs r c pushed out by v) is f

owned : {X : Type 0} (items : List Tasking) (views : List View) (by : ℕ) (v : View) → v.role ≡ Owns → get_elem? views by ≡ some v → DequeRule items views
    → ((gone : List ℕ) → by ≡ 0 → v.pushed ≡ gone ++ bins items → v.out ≡ out_of views → Running items views v.of gone → X) → X
owned items views by v is at kept then =
    named items views by v (λ z. subst IsUnnamed is z) at kept
    (λ c gone run.
    let f = owns c (gone ++ bins items) (out_of views) by v is (run.fit by v at) in
    then gone f.0 (ap (λ (u : View). u.pushed) f.1) (ap (λ (u : View). u.out) f.1) (subst (λ (d : Call). Running items views d gone) (sym (ap (λ (u : View). u.of) f.1)) run))

-- a view of another that isn't out has no place
idle_as : (r : Role) (c : Call) (p : List ℕ) (o j : ℕ) (u : View) (h : ℕ × ℕ → ℕ) → j ≢ 0 → steals_as r ≡ 0 → FitsAs r c p o j u → weigh h u.taken ≡ 0
idle_as Unnamed c p o j u h ne s f = absurd f
idle_as Owns c p o j u h ne s f = absurd (ne f.0)
idle_as Steals c p o j u h ne s f = absurd (omega arith)
idle_as Ended c p o j u h ne s f = ap (λ (v : View). weigh h v.taken) f

is_short : (items : List Tasking) (views : List View) (by : ℕ) (v : View) (c : Call) (gone : List ℕ) → Takes_as v.role → get_elem? views by ≡ some v → Running items views c gone → IsShort v
is_short items views by v c gone may at run =
    let is : v.of ≡ c = takes_of v.role c _ _ by v may (run.fit by v at) in
    let s = taken_short views by v gone at run.once in
    let e : v.of.room ≡ c.room = ap (λ (d : Call). d.room) is in
    let r = run.within in
    omega arith

pub looks : (most by : ℕ) (v : View) → v.role ≡ Steals → FindsFew DequeRule most by v (IsShort v)
looks most by v is items views few kept at =
    named items views by v (λ z. subst IsUnnamed is z) at kept
    (λ c gone run. is_short items views by v c gone (subst Takes_as (sym is) tt) at run)

pub finds : (by : ℕ) (v : View) → v.role ≡ Owns → Finds DequeRule by v (LooksEmpty v)
finds by v is views kept at = (
  owned [] views by v is at kept
      (λ gone z p o run. is_short [] views by v v.of gone (subst Takes_as (sym is) tt) at run),
  λ none h.
      owned [] views by v is at kept
      (λ gone z p o run.
      let alone : taken_weighs h views ≡ weigh h v.taken = weigh_alone (λ (u : View). weigh h u.taken) views by v at
      (λ j u ne e. idle_as u.role _ _ _ j u h (λ q. ne (q ∙ sym z))
      (let m = weigh_at (λ (y : View). steals_as y.role) views j u e in omega arith) (run.fit j u e)) in
      sym alone ∙ run.once h ∙ ap (λ (l : List ℕ). weigh h (places 0 l)) (sym (p ∙ append-nil gone))),
)

pub names : (by : ℕ) (v : View) (c : Call) → by ≡ 0 → v ≡ nameless → Forks DequeRule by v (owning c [] [] 0) ended
names by v c z is items views kept at =
    ⊎_elim
    (λ (n : (items ≡ []) × (views ≡ nameless ∷ [])). subst (λ (y : List Tasking × List View × ℕ). DequeRule y.0 (set y.1 y.2 (owning c [] [] 0) ++ ended ∷ [])) (λ i. (sym n.0 i, sym n.1 i, sym z i))
    (inr (c, [], record { within = omega arith; told = All-nil (IsToldIn c); owner = (owning c [] [] 0, refl, refl); once = λ h. refl; fit = two })))
    (λ (r : (d : Call) × (gone : List ℕ) × Running items views d gone). absurd (subst (λ (u : View). Fits r.0 (r.1 ++ bins items) (out_of views) by u) is (r.2.fit by v at)))
    kept
  where
    two : (j : ℕ) (u : View) → get_elem? (owning c [] [] 0 ∷ ended ∷ []) j ≡ some u → Fits c [] 0 j u
    two zero u f = subst (Fits c [] 0 0) (some-injective _ _ f) (refl, refl)
    two (suc zero) u f = subst (Fits c [] 0 1) (some-injective _ _ f) refl
    two (suc (suc j)) u f = absurd (some-ne-none u (sym f))

pub pushes : (by : ℕ) (v : View) (x : Tasking) → v.role ≡ Owns → IsToldIn v.of x → length v.pushed < v.of.room → Pushes DequeRule by v (x ∷ []) (Pushed v (x ∷ []))
pushes by v x is told short items views kept at =
    owned items views by v is at kept
    (λ gone z p o run.
    let w : View = owning v.of (v.pushed ++ x.of.bin ∷ []) v.taken v.out in
    let l : v.pushed ++ x.of.bin ∷ [] ≡ gone ++ bins (items ++ x ∷ []) =
    ap (λ (k : List ℕ). k ++ x.of.bin ∷ []) p ∙ append_assoc gone (bins items) (x.of.bin ∷ []) ∙ ap (λ (k : List ℕ). gone ++ k) (sym (map-append (λ (t : Tasking). t.of.bin) items (x ∷ []))) in
    let n : out_of (set views by w) ≡ out_of views = let s = weigh_set (λ (u : View). steals_as u.role) views by v w at in let r : steals_as v.role ≡ 0 = ap steals_as is in omega arith in (
      w,
      inr (
        v.of,
        gone,
        record {
          within =
              let a : length v.pushed ≡ length gone + length (bins items) = ap length p ∙ length-append gone (bins items) in
              let b = bins_length items in
              let d = length-append items (x ∷ []) in
              omega arith;
          told = All-push (IsToldIn v.of) items x run.told told;
          owner = owner_set views by v w at (λ r. refl) run.owner;
          once = λ h. let s = weigh_set (λ (u : View). weigh h u.taken) views by v w at in let r = run.once h in omega arith;
          fit = fits_set v.of _ _ views by w
              (λ j u ne e. other_as u.role v.of _ _ _ _ j u (λ q. ne (q ∙ sym z)) (run.fit j u e))
              (z, λ i. owning v.of (l i) v.taken ((o ∙ sym n) i));
        },
      ),
      refl,
    ))
  where
    bins_length : (ts : List Tasking) → length (bins ts) ≡ length ts
    bins_length [] = refl
    bins_length (t ∷ ts) = ap suc (bins_length ts)

pub lends : (by : ℕ) (v : View) → v.role ≡ Owns → Forks DequeRule by v (lending v) (lent v)
lends by v is items views kept at =
    owned items views by v is at kept
    (λ gone z p o run.
    let vs : List View = set views by (lending v) in
    let count : out_of (vs ++ lent v ∷ []) ≡ v.out + 1 =
    let s = weigh_set (λ (u : View). steals_as u.role) views by v (lending v) at in
    let r : steals_as v.role ≡ 0 = ap steals_as is in
    let t = weigh_one (λ (u : View). steals_as u.role) vs (lent v) in
    omega arith in
    let old = fits_set v.of (gone ++ bins items) (out_of (vs ++ lent v ∷ [])) views by (lending v)
    (λ j u ne e. other_as u.role v.of _ _ _ _ j u (λ q. ne (q ∙ sym z)) (run.fit j u e))
    (z, λ i. owning v.of (p i) v.taken (sym count i)) in
    inr (
      v.of,
      gone,
      record {
        within = run.within;
        told = run.told;
        owner = owner_longer vs (lent v ∷ []) (owner_set views by v (lending v) at (λ r. refl) run.owner);
        once = λ h.
            let s = weigh_set (λ (u : View). weigh h u.taken) views by v (lending v) at in
            let t = weigh_one (λ (u : View). weigh h u.taken) vs (lent v) in
            let r = run.once h in
            omega arith;
        fit = λ j u e. ⊎_elim (λ was. old j u was) (λ (same : lent v ≡ u). subst (Fits v.of (gone ++ bins items) (out_of (vs ++ lent v ∷ [])) j) same refl) (at_snoc vs (lent v) u j e);
      },
    ))

-- the other's view is one of those before
other_at : (views : List View) (by other : ℕ) (w u : View) → ¬ (other ≡ by) → get_elem? (set views by w) other ≡ some u → get_elem? views other ≡ some u
other_at views by other w u ne e = ⊎_elim (λ (t : (other ≡ by) × (w ≡ u)). absurd (ne t.0)) (λ (t : (other ≢ by) × (get_elem? views other ≡ some u)). t.1) (at_set views by other w u e)

pub returns : (by : ℕ) (v : View) (other : ℕ) (u : View) → v.role ≡ Owns → u.role ≡ Steals → Merges DequeRule by v other u (returned v u) ended
returns by v other u is steal items views kept at apart there =
    owned items views by v is at kept
    (λ gone z p o run.
    let w : View = returned v u in
    let vs : List View = set views by w in
    let mine : steals_as v.role ≡ 0 = ap steals_as is in
    let theirs : steals_as u.role ≡ 1 = ap steals_as steal in
    let count : out_of (set vs other ended) ≡ v.out - 1 =
    let s = weigh_set (λ (y : View). steals_as y.role) views by v w at in
    let t = weigh_set (λ (y : View). steals_as y.role) vs other u ended there in
    omega arith in
    inr (
      v.of,
      gone,
      record {
        within = run.within;
        told = run.told;
        owner = owner_beside vs other ended (λ e. apart (e ∙ sym z)) (owner_set views by v w at (λ r. refl) run.owner);
        once = λ h.
            let s = weigh_set (λ (y : View). weigh h y.taken) views by v w at in
            let t = weigh_set (λ (y : View). weigh h y.taken) vs other u ended there in
            let m = weigh_append h v.taken u.taken in
            let r = run.once h in
            omega arith;
        fit = fits_set v.of _ _ vs other ended
            (λ j y ne e. fits_set v.of (gone ++ bins items) (out_of (set vs other ended)) views by w
            (λ k x nk f. other_as x.role v.of _ _ _ _ k x (λ q. nk (q ∙ sym z)) (run.fit k x f))
            (z, λ i. owning v.of (p i) (v.taken ++ u.taken) (sym count i)) j y e)
            refl;
      },
    ))
