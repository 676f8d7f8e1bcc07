-- Where reading words asks for memory.
use Rattle.std.specs.Prelude.{◌≡◌, ℕ, ◌%◌, ◌==◌, ◌⊎◌, Bool, List, ◌∷◌, ◌++◌, Option, Some, codes}
use Rattle.std.specs.List.{position_or_len}
use Rattle.peer_words.specs.Areas.{AreRising}
use Rattle.peer_words.specs.Options.{Setting, IsSpelled, IsSet, IsSetTo, MayBeSet, IsAsked}
use Rattle.peer_words.specs.Signers.{IsSignerWord}
use Rattle.peer_words.specs.Values.{IsKeyWord, IsAnyOrKey, IsNumber, IsNumberOrNone, IsCount, IsLinks, IsDigestWord, IsName, IsHeight, IsMode}
use Rattle.peer_words.specs.Verbs.{verb_at, names_of}
use Rattle.peer_words.specs.declared.verb.Verb.{Verb}
use Rattle.peer_words.specs.declared.verb.Verb.TheVariants as verbs

-- ---- one option

-- the value behind the name is a word of the form P for something
abbrev pub IsGiven : {A : Type 0} → (List ℕ → A → Type 0) → List Setting → List ℕ → Type 0
IsGiven {A} P settings name = (x : A) × IsSetTo P settings name x

-- the same, or the name does not stand
abbrev pub MayBeGiven : {A : Type 0} → (List ℕ → A → Type 0) → List Setting → List ℕ → Type 0
MayBeGiven {A} P settings name = (x : Option A) × MayBeSet P settings name x

-- the value behind the name is such a word
abbrev pub IsSetAs : (List ℕ → Type 0) → List Setting → List ℕ → Type 0
IsSetAs P settings name = (word : List ℕ) × IsSet settings name word × P word

-- ---- the words that ask for memory, besides names and places

-- a signer asks where it is a key file: `lms:` and a name
pub record SignerWordAsks (word : List ℕ) : Type 0 where
  pub file : List ℕ
  pub spelled : word ≡ codes "lms:" ++ file
  pub is_name : IsName file

-- a path asks behind its first `/`, where an even number of bytes stands up to the next `/` or the end
pub record PathWordAsks (word : List ℕ) : Type 0 where
  pub behind : List ℕ
  pub spelled : word ≡ 47 ∷ behind
  pub even : position_or_len (λ b. b == 47) behind % 2 ≡ 0

-- an area asks for its path, behind its times and its subspace
pub record AreaWordsAsk (settings : List Setting) : Type 0 where
  pub start : Option ℕ
  pub end : Option (Option ℕ)
  pub start_given : MayBeSet IsNumber settings (codes "--from") start
  pub end_given : MayBeSet IsNumberOrNone settings (codes "--until") end
  pub rising : AreRising start end
  pub subspace_given : MayBeGiven IsAnyOrKey settings (codes "--subspace")
  pub path_asks : IsSetAs PathWordAsks settings (codes "--under")

-- the signer asks; or one is given, and what is read behind it asks
abbrev pub SignerWordAsksOr : List Setting → Type 0 → Type 0
SignerWordAsksOr settings more = IsSetAs SignerWordAsks settings (codes "--key") ⊎ (IsGiven IsSignerWord settings (codes "--key") × more)

-- how much is offered is as it should be, and needs no memory
abbrev pub InterestMayBeGiven : List Setting → Type 0
InterestMayBeGiven settings = MayBeGiven IsCount settings (codes "--newest") × MayBeGiven IsNumber settings (codes "--bytes")

-- so is whether it follows
abbrev pub FollowMayBeGiven : List Setting → Type 0
FollowMayBeGiven settings = (follow : Bool) × IsAsked settings (codes "--follow") follow

-- ---- each command

-- a new key file asks for its name, behind its height
abbrev pub KeyAsks : List Setting → Type 0
KeyAsks settings = IsGiven IsHeight settings (codes "--height") × IsSetAs IsName settings (codes "--name")

-- a first capability asks for its signer, behind all else
abbrev pub GrantAsks : List Setting → Type 0
GrantAsks settings =
    IsGiven IsKeyWord settings (codes "--namespace") × IsGiven IsMode settings (codes "--mode") × IsGiven IsKeyWord settings (codes "--user")
    × IsSetAs SignerWordAsks settings (codes "--key")

-- a capability that is handed on asks for its signer or else its area, behind the user
abbrev pub DelegateAsks : List Setting → Type 0
DelegateAsks settings = IsGiven IsKeyWord settings (codes "--to") × SignerWordAsksOr settings (AreaWordsAsk settings)

-- a row asks for its signer or else its path, behind all else
abbrev pub WriteAsks : List Setting → Type 0
WriteAsks settings =
    IsGiven IsNumber settings (codes "--time") × IsGiven IsNumber settings (codes "--length") × IsGiven IsDigestWord settings (codes "--digest")
    × MayBeGiven IsKeyWord settings (codes "--subspace") × SignerWordAsksOr settings (IsSetAs PathWordAsks settings (codes "--path"))

-- two images that meet ask for the name of the left one, behind how much is offered
abbrev pub MeetAsks : List Setting → Type 0
MeetAsks settings = InterestMayBeGiven settings × IsSetAs IsName settings (codes "--left")

-- a session as caller asks for the name of its image, behind how much is offered and whether it follows
abbrev pub SyncAsks : List Setting → Type 0
SyncAsks settings = InterestMayBeGiven settings × FollowMayBeGiven settings × IsSetAs IsName settings (codes "--image")

-- sessions as answerer ask for the name of their image, behind the number of links and what a caller says before
abbrev pub ServeAsks : List Setting → Type 0
ServeAsks settings = IsGiven IsLinks settings (codes "--links") × SyncAsks settings

-- What the options of a command give before memory is asked for, and what then asks. Some commands never ask.
abbrev pub AsksOf : Verb → List Setting → Type 0
AsksOf verbs.Join settings = ⊥
AsksOf verbs.Show settings = ⊥
AsksOf verbs.Key settings = KeyAsks settings
AsksOf verbs.Grant settings = GrantAsks settings
AsksOf verbs.Delegate settings = DelegateAsks settings
AsksOf verbs.Write settings = WriteAsks settings
AsksOf verbs.Gen settings = ⊥
AsksOf verbs.Drill settings = ⊥
AsksOf verbs.Meet settings = MeetAsks settings
AsksOf verbs.Sync settings = SyncAsks settings
AsksOf verbs.Serve settings = ServeAsks settings
AsksOf verbs.Watch settings = IsSetAs IsName settings (codes "--image")

-- the words name a command, its options stand behind it, each once and with a value, and they ask
pub record AskForMemory (words : List (List ℕ)) : Type 0 where
  pub word : List ℕ
  pub others : List (List ℕ)
  pub verb : Verb
  pub settings : List Setting
  pub spelled : words ≡ word ∷ others
  pub named : verb_at word ≡ Some verb
  pub options : IsSpelled (names_of verb) others settings
  pub asks : AsksOf verb settings
