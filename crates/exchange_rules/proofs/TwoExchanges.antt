-- The exchange of two sides, each with the same rows in the box as another, is that of the others.
use Rattle.std.proofs.Common.{◌≡◌, ℕ, zero, suc, ◌+◌, ◌*◌, List, [], ◌∷◌, ◌++◌, length, Some, sym, refl, ap, ap₂, ◌∙◌, subst}
use Rattle.std.specs.List.{AllByRecursion}
use Rattle.exchange_rules.specs.Rules.{Rules, box_rows, box_print}
use Rattle.exchange_rules.specs.Items.{Ask, Print, Sent}
use Rattle.exchange_rules.specs.Answer.{opened}
use Rattle.exchange_rules.specs.Exchange.{turns, asked, enough, exchange, first_asks, IsApart, Apart}
use Rattle.exchange_rules.specs.Premises.{HasDisjointParts}
use Rattle.exchange_rules.proofs.Members.{all-append}
use Rattle.exchange_rules.proofs.Worlds.{Inside, IsInside, rows_alike, opened_inside, opened_alike, turn_alike, begun_with}

module _ {R X C : Type 0} (g : Rules R X C) (disjoint : HasDisjointParts g) (x : X) where
  turns_alike : (n : ℕ) (l l' m m' : List R) → box_rows g x l ≡ box_rows g x l' → box_rows g x m ≡ box_rows g x m'
      → (asks : List (Ask R X)) → AllByRecursion (IsInside g x) asks → turns g n l m asks ≡ turns g n l' m' asks
  unfolding turns
  turns_alike zero l l' m m' e f asks h = refl
  turns_alike (suc n) l l' m m' e f [] h = refl
  turns_alike (suc n) l l' m m' e f (ask ∷ asks) h =
      ap₂ (λ t ts. t ∷ ts) (turn_alike g disjoint x l l' e (ask ∷ asks) h)
      (turns_alike n m m' l l' f e (opened g l (ask ∷ asks)) (opened_inside g disjoint x l (ask ∷ asks) h)
      ∙ ap (turns g n m' l') (opened_alike g disjoint x l l' e (ask ∷ asks) h))

  asked_alike : (n : ℕ) (l l' m m' : List R) → box_rows g x l ≡ box_rows g x l' → box_rows g x m ≡ box_rows g x m'
      → (asks : List (Ask R X)) → AllByRecursion (IsInside g x) asks → asked g n l m asks ≡ asked g n l' m' asks
  unfolding asked
  asked_alike zero l l' m m' e f asks h = refl
  asked_alike (suc n) l l' m m' e f [] h = refl
  asked_alike (suc n) l l' m m' e f (ask ∷ asks) h =
      ap (λ later. (ask ∷ asks) ++ later)
      (asked_alike n m m' l l' f e (opened g l (ask ∷ asks)) (opened_inside g disjoint x l (ask ∷ asks) h)
      ∙ ap (asked g n m' l') (opened_alike g disjoint x l l' e (ask ∷ asks) h))

  asked_inside : (n : ℕ) (l m : List R) (asks : List (Ask R X)) → AllByRecursion (IsInside g x) asks → AllByRecursion (IsInside g x) (asked g n l m asks)
  unfolding asked
  asked_inside zero l m asks h = tt
  asked_inside (suc n) l m [] h = tt
  asked_inside (suc n) l m (ask ∷ asks) h =
      all-append (IsInside g x) (ask ∷ asks) (asked g n m l (opened g l (ask ∷ asks))) h
      (asked_inside n m l (opened g l (ask ∷ asks)) (opened_inside g disjoint x l (ask ∷ asks) h))

  module _ (a a' b b' : List R) (e : box_rows g x a ≡ box_rows g x a') (f : box_rows g x b ≡ box_rows g x b') where
    whole : Inside g x x
    whole r h = h

    same_enough : enough g a b x ≡ enough g a' b' x
    same_enough = ap₂ (λ rows others. 3 + 3 * (length rows + length others)) e f

    same_first : box_print g x a ≡ box_print g x a'
    same_first = ap g.print e

    pub exchange_alike : exchange g a b (Some x) ≡ exchange g a' b' (Some x)
    exchange_alike =
        ap₂ (λ t ts. t ∷ ts) (ap (begun_with R C) same_first)
        (ap (λ n. turns g n b a (first_asks g a x)) same_enough
        ∙ turns_alike (enough g a' b' x) b b' a a' f e (first_asks g a x) (whole, tt)
        ∙ ap (λ print. turns g (enough g a' b' x) b' a' (Print x print ∷ [])) same_first)

    all_asked : asked g (enough g a b x) b a (first_asks g a x) ≡ asked g (enough g a' b' x) b' a' (first_asks g a' x)
    all_asked =
        ap (λ n. asked g n b a (first_asks g a x)) same_enough
        ∙ asked_alike (enough g a' b' x) b b' a a' f e (first_asks g a x) (whole, tt)
        ∙ ap (λ print. asked g (enough g a' b' x) b' a' (Print x print ∷ [])) same_first

    apart_alike : (asks : List (Ask R X)) → AllByRecursion (IsInside g x) asks → AllByRecursion (IsApart g a b) asks → AllByRecursion (IsApart g a' b') asks
    apart_alike [] h k = tt
    apart_alike (Print y print ∷ asks) h k =
        let of_a = rows_alike g a a' x y h.0 e in
        let of_b = rows_alike g b b' x y h.0 f in
        ((λ same. sym of_a ∙ k.0 (ap g.print of_a ∙ same ∙ sym (ap g.print of_b)) ∙ of_b), apart_alike asks h.1 k.1)
    apart_alike (Sent y sent ∷ asks) h k = (tt, apart_alike asks h.1 k.1)

    pub Apart-alike : Apart g a b x → Apart g a' b' x
    Apart-alike apart =
        let asks = asked g (enough g a b x) b a (first_asks g a x) in
        subst (AllByRecursion (IsApart g a' b')) all_asked (apart_alike asks (asked_inside (enough g a b x) b a (first_asks g a x) (whole, tt)) apart)
