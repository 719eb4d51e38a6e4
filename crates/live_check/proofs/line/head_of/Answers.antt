use Rattle.std.proofs.Common.{◌≡◌, ℕ, List, [], ◌∷◌, ◌++◌, codes, length, append_assoc, arith, ap, ◌∙◌}
use Rattle.std.specs.Fmt.{decimal}
use Rattle.live_check.proofs.line.head_of.Goals as goal

pub number-requires : goal.number-requires
number-requires c = omega (arith, ap length c.begin-text.ensures)

pub number-requires-2 : goal.number-requires-2
number-requires-2 c = omega (arith, c.number.ensures.room, ap length c.begin-text.ensures)

pub number-requires-3 : goal.number-requires-3
number-requires-3 c = omega (arith, c.number-2.ensures.room, c.number.ensures.room, ap length c.begin-text.ensures)

pub push-requires : goal.push-requires
push-requires c = omega (arith, c.number-3.ensures.room, c.number-2.ensures.room, c.number.ensures.room, ap length c.begin-text.ensures)

-- the fields one by one, and all at once
spaced : (a b c d : List ℕ) → ((a ++ (32 ∷ b)) ++ (32 ∷ c)) ++ (32 ∷ d) ≡ a ++ (32 ∷ (b ++ (32 ∷ (c ++ (32 ∷ d)))))
spaced a b c d =
    append_assoc (a ++ (32 ∷ b)) (32 ∷ c) (32 ∷ d) ∙ append_assoc a (32 ∷ b) (32 ∷ (c ++ (32 ∷ d)))

-- one field more
field : (text new : List ℕ) (begun : List ℕ) (n m : ℕ) → new ≡ text ++ (32 ∷ decimal n) → text ≡ begun → n ≡ m → new ≡ begun ++ (32 ∷ decimal m)
field text new begun n m is before number = is ∙ (λ i. before i ++ (32 ∷ decimal (number i)))

pub returns : goal.returns
returns c =
    let live = codes "live" in
    let f = decimal c.args.frame in let r = decimal c.args.round in let o = decimal c.args.object in
    let first = field _ _ live c.from.result c.args.frame c.number.ensures.value c.begin-text.ensures c.from.ensures in
    let second = field _ _ (live ++ (32 ∷ f)) c.from-2.result c.args.round c.number-2.ensures.value first c.from-2.ensures in
    let third = field _ _ ((live ++ (32 ∷ f)) ++ (32 ∷ r)) c.from-3.result c.args.object c.number-3.ensures.value second c.from-3.ensures in
    c.push.ensures ∙ ap (λ (t : List ℕ). t ++ 32 ∷ []) (third ∙ spaced live f r o)
