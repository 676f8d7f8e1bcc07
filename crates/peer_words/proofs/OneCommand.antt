-- Words spell one command.
use Rattle.std.proofs.Common.{◌≡◌, ℕ, List, [], ◌∷◌, ◌++◌, length, get_or, take, drop, ◌==◌, Option, Some, None, String, codes, refl, sym, ap, ◌∙◌, arith, subst}
use Rattle.std.specs.Prelude.{Bool, true, false, not, is_some}
use Rattle.std.proofs.lemmas.Bool.{false≢true}
use Rattle.std.specs.List.{position_or_len}
use Rattle.std.specs.declared.alloc.Global.{Global}
use Rattle.hex.specs.Hex.{decode_of, decode_sized}
use Rattle.hex.proofs.HexLemmas.{decode_sized-ok}
use Rattle.lms_core.specs.declared.height.Height.TheVariants.{H5, H10}
use Rattle.mc_cap.specs.declared.capability.Mode.{Mode}
use Rattle.mc_cap.specs.declared.capability.Mode.TheVariants as mode
use Rattle.scheme_core.specs.Open.{is_communal}
use Rattle.willow_path.specs.declared.key.Digest.{Digest}
use Rattle.peer_words.specs.declared.limits.TheConstants.{MOST_LINKS, MOST_ROWS}
use Rattle.peer_words.specs.Alike.{AreSameText, AreSameSigner, AreSameIfAny, AreSameTextIfAny, AreAlike}
use Rattle.peer_words.specs.Areas.{HasArea}
use Rattle.peer_words.specs.Commands.{verb_of, HasGrant, HasInterest, HasValues, IsOf, IsWords}
use Rattle.peer_words.specs.Options.{Setting, HaveOwnNames, IsSetTo, MayBeSet, IsAsked}
use Rattle.peer_words.specs.Signers.{IsSignerWord}
use Rattle.peer_words.specs.Values.{IsKeyWord, IsAnyOrKey, IsDigestWord, IsNumber, IsNumberOrNone, IsNumberWithin, IsCount, IsLinks, IsNameWord, IsPlaceWord, IsHeight, IsMode, AreParts, IsPathWord}
use Rattle.peer_words.specs.declared.command.AreaWords.{AreaWords}
use Rattle.peer_words.specs.declared.command.Command.{Command}
use Rattle.peer_words.specs.declared.command.Command.TheVariants as cmd
use Rattle.peer_words.specs.declared.command.SignerWord.{SignerWord}
use Rattle.peer_words.specs.declared.command.SignerWord.TheVariants.{OpenKey, LmsFile}
use Rattle.peer_words.proofs.Fields.{of_join, of_show, of_key, of_grant, of_delegate, of_write, of_generate, of_drill, of_meet, of_sync, of_serve, of_watch}
use Rattle.peer_words.proofs.Numbers.{one_number}
use Rattle.peer_words.proofs.OneValue.{IsSingle, gives_same, gives_one, may_give_one, one_end}
use Rattle.peer_words.proofs.PathWords.{opened, same_ok}
use Rattle.peer_words.proofs.SignerWords.{behind_open, behind_lms, apart}
use Rattle.peer_words.proofs.WholeWords.{is_of}

-- ---- each form of value

one_key : IsSingle IsKeyWord
one_key word x y a b = same_ok (decode_sized word 33) x y a.digits b.digits

no_any : (word key : List ℕ) → word ≡ codes "any" → IsKeyWord word key → ⊥
no_any word key any is = absurd (omega (arith, ap length any, decode_sized-ok word 33 key is.digits))

one_any : IsSingle IsAnyOrKey
one_any word None None a b = refl
one_any word None (Some key) a b = absurd (no_any word key a b)
one_any word (Some key) None a b = absurd (no_any word key b a)
one_any word (Some x) (Some y) a b = ap Some (one_key word x y a b)

one_digest : IsSingle IsDigestWord
one_digest word x y a b =
    let made : List ℕ → Digest = λ bytes. record { 0 = bytes } in
    ap made (same_ok (decode_sized word 32) x.0 y.0 a b)

one_within : (least most : ℕ) → IsSingle (IsNumberWithin least most)
one_within least most word n m a b = one_number word n m a.number b.number

one_height : IsSingle IsHeight
one_height word H5 H5 a b = refl
one_height word H10 H10 a b = refl
one_height word H5 H10 a b = absurd (omega (arith, ap length a, ap length b))
one_height word H10 H5 a b = absurd (omega (arith, ap length a, ap length b))

one_mode : IsSingle IsMode
one_mode word mode.Read mode.Read a b = refl
one_mode word mode.Write mode.Write a b = refl
one_mode word mode.Read mode.Write a b = absurd (omega (arith, ap length a, ap length b))
one_mode word mode.Write mode.Read a b = absurd (omega (arith, ap length a, ap length b))

one_name : (word : List ℕ) (x y : String Global) → IsNameWord word x → IsNameWord word y → AreSameText x y
one_name word x y a b = a.0 ∙ sym b.0

one_place : (word : List ℕ) (x y : String Global) → IsPlaceWord word x → IsPlaceWord word y → AreSameText x y
one_place word x y a b = a.0 ∙ sym b.0

one_signer : (word : List ℕ) (x y : SignerWord) → IsSignerWord word x → IsSignerWord word y → AreSameSigner x y
one_signer word (OpenKey x) (OpenKey y) a b =
    let digits = behind_open a.spelled.digits b.spelled.digits (sym a.spelled.spelled ∙ b.spelled.spelled) in
    let body = same_ok (decode_sized b.spelled.digits 32) a.spelled.is_body.body b.spelled.is_body.body (ap (λ (d : List ℕ). decode_sized d 32) (sym digits) ∙ a.spelled.is_body.decoded) b.spelled.is_body.decoded in
    a.spelled.is_body.of_kind_0 ∙ (ap (λ (bytes : List ℕ). 0 ∷ bytes) body ∙ sym b.spelled.is_body.of_kind_0)
one_signer word (LmsFile x) (LmsFile y) a b =
    let file = behind_lms a.spelled.file b.spelled.file (sym a.spelled.spelled ∙ b.spelled.spelled) in
    a.spelled.is_name.0 ∙ (file ∙ sym b.spelled.is_name.0)
one_signer word (OpenKey x) (LmsFile y) a b = apart a.spelled.digits b.spelled.file (sym a.spelled.spelled ∙ b.spelled.spelled)
one_signer word (LmsFile x) (OpenKey y) a b = apart b.spelled.digits a.spelled.file (sym b.spelled.spelled ∙ a.spelled.spelled)

front : (word : List ℕ) (rest : List ℕ) → word ≡ 47 ∷ rest → word ≡ 47 ∷ drop 1 word
front word rest is = is ∙ ap (λ (w : List ℕ). 47 ∷ drop 1 w) (sym is)

one_parts : (word : List ℕ) (p q : List (List ℕ)) → AreParts word p → AreParts word q → p ≡ q
one_parts word [] [] a b = refl
one_parts word [] (y ∷ ys) a b = absurd (omega (arith, ap length a, ap length b.2))
one_parts word (x ∷ xs) [] a b = absurd (omega (arith, ap length b, ap length a.2))
one_parts word (x ∷ xs) (y ∷ ys) a b =
    let others = drop 1 word in
    let n = position_or_len (λ c. c == 47) others in
    let is : word ≡ 47 ∷ others = front word (a.0 ++ a.1) a.2 in
    let one = opened others n x xs refl (subst (λ (w : List ℕ). AreParts w (x ∷ xs)) is a) in
    let two = opened others n y ys refl (subst (λ (w : List ℕ). AreParts w (y ∷ ys)) is b) in
    ap (λ (part : List ℕ). part ∷ xs) (same_ok (decode_of (take n others)) x y one.0 two.0) ∙ ap (λ (parts : List (List ℕ)). y ∷ parts) (one_parts (drop n others) xs ys one.1 two.1)

dot_apart : (word rest : List ℕ) → word ≡ codes "." → word ≡ 47 ∷ rest → ⊥
dot_apart word rest dot slash =
    let first : ◌≡◌ {A = ℕ} 46 47 = ap (λ (w : List ℕ). get_or w 0 0) (sym dot ∙ slash) in
    absurd (omega arith)

one_path : IsSingle IsPathWord
one_path word [] [] a b = refl
one_path word [] (y ∷ ys) a b = absurd (dot_apart word _ a.spelled b.spelled.2)
one_path word (x ∷ xs) [] a b = absurd (dot_apart word _ b.spelled a.spelled.2)
one_path word (x ∷ xs) (y ∷ ys) a b = one_parts word (x ∷ xs) (y ∷ ys) a.spelled b.spelled

made : Option (Option (List ℕ)) → Option (List (List ℕ)) → Option ℕ → Option (Option ℕ) → AreaWords
made s u f t = record { subspace = s; under = u; from = f; until = t }

one_area : (settings : List Setting) → HaveOwnNames settings → (a b : AreaWords) → HasArea settings a → HasArea settings b → a ≡ b
unfolding made
one_area settings own a b x y =
    let subspace = may_give_one IsAnyOrKey one_any settings own (codes "--subspace") a.subspace b.subspace x.any_or_key y.any_or_key in
    let under = may_give_one IsPathWord one_path settings own (codes "--under") a.under b.under x.path y.path in
    let start = may_give_one IsNumber one_number settings own (codes "--from") a.from b.from x.start y.start in
    let end = may_give_one IsNumberOrNone one_end settings own (codes "--until") a.until b.until x.end y.end in
    ap (λ (s : Option (Option (List ℕ))). made s a.under a.from a.until) subspace ∙
    (ap (λ (u : Option (List (List ℕ))). made b.subspace u a.from a.until) under ∙
    (ap (λ (f : Option ℕ). made b.subspace b.under f a.until) start ∙
    ap (λ (t : Option (Option ℕ)). made b.subspace b.under b.from t) end))

-- ---- each command

key_there : (settings : List Setting) → HaveOwnNames settings → (name : List ℕ) (x y : List ℕ) → IsSetTo IsKeyWord settings name x → IsSetTo IsKeyWord settings name y → x ≡ y
key_there = gives_one IsKeyWord one_key

number_there : (settings : List Setting) → HaveOwnNames settings → (name : List ℕ) (x y : ℕ) → IsSetTo IsNumber settings name x → IsSetTo IsNumber settings name y → x ≡ y
number_there = gives_one IsNumber one_number

name_there : (settings : List Setting) → HaveOwnNames settings → (name : List ℕ) (x y : String Global) → IsSetTo IsNameWord settings name x → IsSetTo IsNameWord settings name y → AreSameText x y
name_there = gives_same AreSameText IsNameWord one_name

place_there : (settings : List Setting) → HaveOwnNames settings → (name : List ℕ) (x y : String Global) → IsSetTo IsPlaceWord settings name x → IsSetTo IsPlaceWord settings name y → AreSameText x y
place_there = gives_same AreSameText IsPlaceWord one_place

signer_there : (settings : List Setting) → HaveOwnNames settings → (name : List ℕ) (x y : SignerWord) → IsSetTo IsSignerWord settings name x → IsSetTo IsSignerWord settings name y → AreSameSigner x y
signer_there = gives_same AreSameSigner IsSignerWord one_signer

signer_if_there : (settings : List Setting) → HaveOwnNames settings → (name : List ℕ) (x y : Option SignerWord) → MayBeSet IsSignerWord settings name x → MayBeSet IsSignerWord settings name y → AreSameIfAny x y
signer_if_there settings own name None None a b = tt
signer_if_there settings own name None (Some y) a b = a b.0 b.1
signer_if_there settings own name (Some x) None a b = b a.0 a.1
signer_if_there settings own name (Some x) (Some y) a b = signer_there settings own name x y a b

name_if_there : (settings : List Setting) → HaveOwnNames settings → (name : List ℕ) (x y : Option (String Global)) → MayBeSet IsNameWord settings name x → MayBeSet IsNameWord settings name y → AreSameTextIfAny x y
name_if_there settings own name None None a b = tt
name_if_there settings own name None (Some y) a b = a b.0 b.1
name_if_there settings own name (Some x) None a b = b a.0 a.1
name_if_there settings own name (Some x) (Some y) a b = name_there settings own name x y a b

one_newest : (settings : List Setting) → HaveOwnNames settings → (x y bytes others : Option ℕ) → HasInterest settings x bytes → HasInterest settings y others → x ≡ y
one_newest settings own x y bytes others a b = may_give_one IsCount (one_within 1 MOST_ROWS) settings own (codes "--newest") x y a.newest_given b.newest_given

one_bytes : (settings : List Setting) → HaveOwnNames settings → (newest others x y : Option ℕ) → HasInterest settings newest x → HasInterest settings others y → x ≡ y
one_bytes settings own newest others x y a b = may_give_one IsNumber one_number settings own (codes "--bytes") x y a.bytes_given b.bytes_given

one_asked : (settings : List Setting) (name : List ℕ) (x y : Bool) → IsAsked settings name x → IsAsked settings name y → x ≡ y
one_asked settings name true true a b = refl
one_asked settings name false false a b = refl
one_asked settings name true false a b = absurd (b (codes "yes") a)
one_asked settings name false true a b = absurd (a (codes "yes") b)

not_itself : (b : Bool) → b ≡ not b → ⊥
not_itself true same = false≢true (sym same)
not_itself false same = false≢true same

some_alike : (a b : Option SignerWord) → AreSameIfAny a b → is_some a ≡ is_some b
some_alike None None same = refl
some_alike (Some a) (Some b) same = refl
some_alike None (Some b) same = absurd same
some_alike (Some a) None same = absurd same

-- where options give a signer just where the namespace that they give is communal, they grant nothing
pub not_granted : (settings : List Setting) → HaveOwnNames settings → (n : List ℕ) (k : Option SignerWord) → IsSetTo IsKeyWord settings (codes "--namespace") n → MayBeSet IsSignerWord settings (codes "--key") k
    → is_some k ≡ is_communal n → (m : List ℕ) (mode : Mode) (user : List ℕ) (l : Option SignerWord) → HasGrant settings m mode user l → ⊥
not_granted settings own n k namespace_given key_given same m mode user l has =
    not_itself (is_communal n) (sym same ∙ (some_alike k l (signer_if_there settings own (codes "--key") k l key_given has.key_given) ∙
    (has.key_due ∙ ap (λ (key : List ℕ). not (is_communal key)) (key_there settings own (codes "--namespace") m n has.namespace_given namespace_given))))

alike : (settings : List Setting) → HaveOwnNames settings → (one other : Command) → HasValues settings one → IsOf (verb_of one) settings other → AreAlike one other
alike s own (cmd.Join a) other has is = of_join (AreAlike (cmd.Join a)) s other is (λ b had. key_there s own (codes "--namespace") a b has had)
alike s own (cmd.Show a) other has is = of_show (AreAlike (cmd.Show a)) s other is (λ b had. may_give_one IsCount (one_within 1 MOST_ROWS) s own (codes "--newest") a b has had)
alike s own (cmd.Key a h) other has is = of_key (AreAlike (cmd.Key a h)) s other is (λ b i had. (
  name_there s own (codes "--name") a b has.name_given had.name_given,
  gives_one IsHeight one_height s own (codes "--height") h i has.height_given had.height_given,
))
alike s own (cmd.Grant a m u k) other has is = of_grant (AreAlike (cmd.Grant a m u k)) s other is (λ b n v l had. (
  key_there s own (codes "--namespace") a b has.namespace_given had.namespace_given,
  gives_one IsMode one_mode s own (codes "--mode") m n has.mode_given had.mode_given,
  key_there s own (codes "--user") u v has.user_given had.user_given,
  signer_if_there s own (codes "--key") k l has.key_given had.key_given,
))
alike s own (cmd.Delegate k u a) other has is = of_delegate (AreAlike (cmd.Delegate k u a)) s other is (λ l v b had. (
  signer_there s own (codes "--key") k l has.key_given had.key_given,
  key_there s own (codes "--to") u v has.to_given had.to_given,
  one_area s own a b has.area_given had.area_given,
))
alike s own (cmd.Write k p t n d r) other has is = of_write (AreAlike (cmd.Write k p t n d r)) s other is (λ l q u m e v had. (
  signer_there s own (codes "--key") k l has.key_given had.key_given,
  gives_one IsPathWord one_path s own (codes "--path") p q has.path_given had.path_given,
  number_there s own (codes "--time") t u has.time_given had.time_given,
  number_there s own (codes "--length") n m has.length_given had.length_given,
  gives_one IsDigestWord one_digest s own (codes "--digest") d e has.digest_given had.digest_given,
  may_give_one IsKeyWord one_key s own (codes "--subspace") r v has.subspace_given had.subspace_given,
))
alike s own (cmd.Gen a) other has is = of_generate (AreAlike (cmd.Gen a)) s other is (λ b had. gives_one IsCount (one_within 1 MOST_ROWS) s own (codes "--rows") a b has had)
alike s own (cmd.Drill a) other has is = of_drill (AreAlike (cmd.Drill a)) s other is (λ b had. gives_one IsCount (one_within 1 MOST_ROWS) s own (codes "--rows") a b has had)
alike s own (cmd.Meet a b c d e f g n o) other has is = of_meet (AreAlike (cmd.Meet a b c d e f g n o)) s other is (λ h i j k l m p q r had. (
  name_there s own (codes "--left") a h has.left_given had.left_given,
  name_there s own (codes "--right") b i has.right_given had.right_given,
  name_there s own (codes "--left-cap") c j has.left_cap_given had.left_cap_given,
  name_there s own (codes "--right-cap") d k has.right_cap_given had.right_cap_given,
  name_there s own (codes "--left-out") e l has.left_out_given had.left_out_given,
  name_there s own (codes "--right-out") f m has.right_out_given had.right_out_given,
  one_area s own g p has.area_given had.area_given,
  one_newest s own n q o r has.interest_given had.interest_given,
  one_bytes s own n q o r has.interest_given had.interest_given,
))
alike s own (cmd.Sync a b c d e n o u) other has is = of_sync (AreAlike (cmd.Sync a b c d e n o u)) s other is (λ f g h i j q r v had. (
  name_there s own (codes "--image") a f has.image_given had.image_given,
  name_there s own (codes "--cap") b g has.cap_given had.cap_given,
  signer_there s own (codes "--key") c h has.key_given had.key_given,
  place_there s own (codes "--to") d i has.to_given had.to_given,
  one_area s own e j has.area_given had.area_given,
  one_newest s own n q o r has.interest_given had.interest_given,
  one_bytes s own n q o r has.interest_given had.interest_given,
  one_asked s (codes "--follow") u v has.follow_given had.follow_given,
))
alike s own (cmd.Serve a b c d e f n o u w) other has is = of_serve (AreAlike (cmd.Serve a b c d e f n o u w)) s other is (λ g h i j k l q r v x had. (
  name_there s own (codes "--image") a g has.image_given had.image_given,
  name_there s own (codes "--cap") b h has.cap_given had.cap_given,
  signer_there s own (codes "--key") c i has.key_given had.key_given,
  place_there s own (codes "--at") d j has.at_given had.at_given,
  gives_one IsLinks (one_within 1 MOST_LINKS) s own (codes "--links") e k has.links_given had.links_given,
  one_area s own f l has.area_given had.area_given,
  one_newest s own n q o r has.interest_given had.interest_given,
  one_bytes s own n q o r has.interest_given had.interest_given,
  one_asked s (codes "--follow") u v has.follow_given had.follow_given,
  name_if_there s own (codes "--log") w x has.log_given had.log_given,
))
alike s own (cmd.Watch a b) other has is = of_watch (AreAlike (cmd.Watch a b)) s other is (λ c d had. (
  name_there s own (codes "--image") a c has.image_given had.image_given,
  one_area s own b d has.area_given had.area_given,
))

-- two commands that the same words spell have the same fields
pub at_most_one : (words : List (List ℕ)) (one other : Command) → IsWords words one → IsWords words other → AreAlike one other
at_most_one words one other a b = alike a.settings a.options.are_settings.once one other a.values (is_of words a.word a.others (verb_of one) a.settings other a.spelled a.named a.options b)
