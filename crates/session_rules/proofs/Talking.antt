-- Behind its greeting a session is the exchange.
use Rattle.std.proofs.Common.{◌≡◌, ℕ, ◌+◌, List, [], ◌∷◌, ◌++◌, map, length, sym, refl, ap, ◌∙◌}
use Rattle.session_rules.specs.Machine.{Seen, Whole, Part, Wrong, Step, Goes, Ends, Refuses}
use Rattle.session_rules.specs.Reading.{Stand, Waits, Over, Broken, Refused, Move, then, stepped, judged, run, read}
use Rattle.session_rules.specs.Talk.{Role, Talk, talk, item_heard}
use Rattle.session_rules.specs.Greeting.{Greeting, Own}
use Rattle.session_rules.specs.Session.{Message, Item, Stage, Talking, Cause, InTalk, item_read, seen_as, session, Offering}
use Rattle.session_rules.proofs.Runs.{move_of}

pub map-append : {A B : Type 0} (f : A → B) (xs ys : List A) → map f (xs ++ ys) ≡ map f xs ++ map f ys
map-append f [] ys = refl
map-append f (x ∷ xs) ys = ap (λ rest. f x ∷ rest) (map-append f xs ys)

module _ (H P T I R F G : Type 0) where
  abbrev pub lift_stand : Stand T G → Stand (Stage H T) (Cause F G)
  lift_stand (Waits t at held) = Waits (Talking t) at held
  lift_stand Over = Over
  lift_stand (Broken at) = Broken at
  lift_stand (Refused cause) = Refused (InTalk cause)

  abbrev pub lift : Move T I R G → Move (Stage H T) (Message H P I) R (Cause F G)
  lift m = record { stand = lift_stand m.stand; says = map Item m.says; rows = m.rows }

  lift-then : (m n : Move T I R G) → lift (then m n) ≡ then (lift m) (lift n)
  lift-then m n = ap (λ says. move_of (lift_stand n.stand) says (m.rows ++ n.rows)) (map-append Item m.says n.says)

  lift-stepped : (at : ℕ) (step : Step T I R G) → lift (stepped at step) ≡ stepped at (item_read step)
  lift-stepped at (Goes t items rows) = refl
  lift-stepped at (Ends items rows) = refl
  lift-stepped at (Refuses cause) = refl

module _ {H P A F R T I G : Type 0} (g : Greeting H P A F) (k : Talk R A T I G) (own : Own H P) (offers : Offering A R) (role : Role) (others : List R) (agreed : A) where
  lift-judged : (t : T) (at : ℕ) (held : List ℕ) (seen : Seen I)
      → lift H P T I R F G (judged (talk k role others agreed) t at held seen) ≡ judged (session g k own offers) (Talking t) at held (seen_as Item seen)
  lift-judged t at held (Whole item) = lift-stepped H P T I R F G (at + length held) (item_heard k item (k.heard t item))
  lift-judged t at held Part = refl
  lift-judged t at held Wrong = refl

  -- whatever the exchange began with
  pub talking : (q : Stand T G) (bytes : List ℕ) → read (session g k own offers) (lift_stand H P T I R F G q) bytes ≡ lift H P T I R F G (read (talk k role others agreed) q bytes)
  unfolding run
  talking q [] = refl
  talking (Waits t at held) (byte ∷ bytes) =
      let now = held ++ byte ∷ [] in
      let m = judged (talk k role others agreed) t at now (k.sees t now) in
      ap (λ n. then n (read (session g k own offers) n.stand bytes)) (sym (lift-judged t at now (k.sees t now)))
      ∙ ap (then (lift H P T I R F G m)) (talking m.stand bytes)
      ∙ sym (lift-then H P T I R F G m (read (talk k role others agreed) m.stand bytes))
  talking Over (byte ∷ bytes) = talking Over bytes
  talking (Broken at) (byte ∷ bytes) = talking (Broken at) bytes
  talking (Refused cause) (byte ∷ bytes) = talking (Refused cause) bytes
