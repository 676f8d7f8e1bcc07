-- Visits that are over, one by one, and links that are given back.
use Rattle.std.proofs.Common.{◌≡◌, ◌-◌, ◌≤◌, List, [], ◌∷◌, ◌++◌, length, map, Some, None, refl, sym, ap, ◌∙◌, append_assoc, subst, arith}
use Rattle.std.specs.declared.option.Option.{Option}
use Rattle.std.proofs.lemmas.List.{append-nil, map-append, length-append, length-map}
use Rattle.std.proofs.lemmas.List.Elements.{All-nil, All-push}
use Rattle.willow_outside.specs.Facts.{LinkFacts, DoorFacts}
use Rattle.willow_outside.specs.Links.{list_with}
use Rattle.link_host.specs.Visits.{Visit, IsVisit}
use Rattle.link_host.specs.Hosted.{list_with_all}
use Rattle.link_host.specs.Begun.{Begun, AreGivenBack, AreOver, AreVisited, beginning}

-- a told list that grew by none is as it was
pub grew_by_none : {A : Type 0} (told : Option (List A)) → told ≡ list_with_all [] told
grew_by_none None = refl
grew_by_none (Some xs) = ap Some (sym (append-nil xs))

-- and one that grew by some and then by one grew by all of them
pub grew_by_one : {A : Type 0} (xs : List A) (x : A) (told : Option (List A)) → list_with x (list_with_all xs told) ≡ list_with_all (xs ++ x ∷ []) told
grew_by_one xs x None = refl
grew_by_one xs x (Some ys) = rw append_assoc refl

-- ---- links that are given back

pub none_back : (door : DoorFacts) → AreGivenBack [] door door
none_back door = record { back = grew_by_none door.back; out = omega arith; accepts = refl; asked = refl; faults = refl }

-- one more is given back, of things that are links
pub one_more_back : {L : Type 0} (facts : L → LinkFacts) (done : List L) (link : L) (old mid new : DoorFacts) → AreGivenBack (map facts done) old mid → 1 ≤ mid.out
    → new.back ≡ list_with (facts link) mid.back → new.out ≡ mid.out - 1 → new.accepts ≡ mid.accepts → new.asked ≡ mid.asked → new.faults ≡ mid.faults → AreGivenBack (map facts (done ++ link ∷ [])) old new
one_more_back facts done link old mid new so_far some back out accepts asked faults =
    let longer = map-append facts done (link ∷ []) in
    record {
      back = back ∙ (ap (list_with (facts link)) so_far.back ∙ (grew_by_one (map facts done) (facts link) old.back ∙ ap (λ links. list_with_all links old.back) (sym longer)));
      out = omega (arith, out, some, so_far.out, ap length longer, length-append (map facts done) (facts link ∷ []));
      accepts = accepts ∙ so_far.accepts;
      asked = asked ∙ so_far.asked;
      faults = faults ∙ so_far.faults;
    }

-- all of them are
pub all_given_back : {L : Type 0} (facts : L → LinkFacts) (done whole : List L) (old new : DoorFacts) → done ≡ whole → AreGivenBack (map facts done) old new → AreGivenBack (map facts whole) old new
all_given_back facts done whole old new same back = subst (λ links. AreGivenBack (map facts links) old new) same back

-- ---- visits that are over

module _ {J P : Type 0} (does : J → LinkFacts → P → LinkFacts → Type 0) where
  pub none_over : {L : Type 0} (facts : L → LinkFacts) (links : List L) (partings : List P) → links ≡ [] → partings ≡ [] → AreOver does [] (map facts links) partings
  none_over facts links partings no_links none = record {
    visits = [];
    each = All-nil (IsVisit does);
    begun_are = refl;
    partings_are = sym none;
    links_are = sym (ap (map facts) no_links);
  }

  -- of things that begin a visit each, one more visit is over
  pub one_more_over : {S L : Type 0} (begins : S → Begun J) (facts : L → LinkFacts) (done : List S) (s : S) (links more : List L) (link : L) (before after : List P) (v : Visit J P)
      → AreOver does (map begins done) (map facts links) before → IsVisit does v → beginning v ≡ begins s → v.link ≡ facts link → more ≡ links ++ link ∷ [] → after ≡ before ++ v.parting ∷ []
      → AreOver does (map begins (done ++ s ∷ [])) (map facts more) after
  one_more_over begins facts done s links more link before after v so_far visit of_it of_link kept parted =
      let vs = so_far.visits in
      record {
        visits = vs ++ v ∷ [];
        each = All-push (IsVisit does) vs v so_far.each visit;
        begun_are = map-append beginning vs (v ∷ []) ∙ (ap (λ bs. bs ++ beginning v ∷ []) so_far.begun_are ∙ (ap (λ b. map begins done ++ b ∷ []) of_it ∙ sym (map-append begins done (s ∷ []))));
        partings_are = map-append (λ w. w.parting) vs (v ∷ []) ∙ (ap (λ ps. ps ++ v.parting ∷ []) so_far.partings_are ∙ sym parted);
        links_are =
            map-append (λ w. w.link) vs (v ∷ [])
            ∙ (ap (λ ls. ls ++ v.link ∷ []) so_far.links_are ∙ (ap (λ l. map facts links ++ l ∷ []) of_link ∙ (sym (map-append facts links (link ∷ [])) ∙ ap (map facts) (sym kept))));
      }

  -- all of them are
  pub all_over : {S : Type 0} (begins : S → Begun J) (done whole : List S) (links : List LinkFacts) (partings : List P) → done ≡ whole → AreOver does (map begins done) links partings → AreOver does (map begins whole) links partings
  all_over begins done whole links partings same over = subst (λ ss. AreOver does (map begins ss) links partings) same over

  -- there are as many links as visits were begun
  pub as_many_links : (begun : List (Begun J)) (links : List LinkFacts) (partings : List P) → AreOver does begun links partings → length links ≡ length begun
  as_many_links begun links partings over = omega (arith, ap length over.links_are, ap length over.begun_are, length-map over.visits (λ v. v.link), length-map over.visits beginning)

  -- behind them the links were given back
  pub visited : (begun : List (Begun J)) (links : List LinkFacts) (partings : List P) (old new : DoorFacts) → AreOver does begun links partings → AreGivenBack links old new → AreVisited does begun partings old new
  visited begun links partings old new over given = record {
    visits = over.visits;
    each = over.each;
    begun_are = over.begun_are;
    partings_are = over.partings_are;
    back = given.back ∙ ap (λ ls. list_with_all ls old.back) (sym over.links_are);
    out = omega (arith, given.out, as_many_links begun links partings over);
    accepts = given.accepts;
    asked = given.asked;
    faults = given.faults;
  }
