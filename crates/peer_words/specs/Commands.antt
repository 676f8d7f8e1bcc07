-- Which words are which command.
use Rattle.std.specs.Prelude.{◌≡◌, ◌≢◌, ℕ, Bool, List, ◌∷◌, Option, Some, is_some, not, Result, codes, String}
use Rattle.std.specs.declared.alloc.Global.{Global}
use Rattle.spelling.specs.declared.ending.End.{End}
use Rattle.lms_core.specs.declared.height.Height.{Height}
use Rattle.mc_cap.specs.declared.capability.Mode.{Mode}
use Rattle.scheme_core.specs.Open.{is_communal}
use Rattle.willow_path.specs.declared.key.Digest.{Digest}
use Rattle.peer_words.specs.Areas.{HasArea}
use Rattle.peer_words.specs.Options.{Setting, IsSpelled, IsSetTo, MayBeSet, IsAsked}
use Rattle.peer_words.specs.Signers.{IsSignerWord}
use Rattle.peer_words.specs.Values.{IsKeyWord, IsCount, IsLinks, IsNumber, IsDigestWord, IsNameWord, IsPlaceWord, IsHeight, IsMode, IsPathWord}
use Rattle.peer_words.specs.Verbs.{verb_at, names_of}
use Rattle.peer_words.specs.Words.{Reads}
use Rattle.peer_words.specs.declared.command.AreaWords.{AreaWords}
use Rattle.peer_words.specs.declared.command.Command.{Command}
use Rattle.peer_words.specs.declared.command.Command.TheVariants as cmd
use Rattle.peer_words.specs.declared.command.SignerWord.{SignerWord}
use Rattle.peer_words.specs.declared.command.Usage.{Usage}
use Rattle.peer_words.specs.declared.verb.Verb.{Verb}
use Rattle.peer_words.specs.declared.verb.Verb.TheVariants as verbs

-- which command it is
abbrev pub verb_of : Command → Verb
verb_of (cmd.Join namespace) = verbs.Join
verb_of (cmd.Show newest) = verbs.Show
verb_of (cmd.Key name height) = verbs.Key
verb_of (cmd.Grant namespace mode user key) = verbs.Grant
verb_of (cmd.Delegate key to area) = verbs.Delegate
verb_of (cmd.Write key path time length digest subspace) = verbs.Write
verb_of (cmd.Gen rows) = verbs.Gen
verb_of (cmd.Drill rows) = verbs.Drill
verb_of (cmd.Meet left right left_cap right_cap left_out right_out area newest bytes) = verbs.Meet
verb_of (cmd.Sync image cap key to area newest bytes follow) = verbs.Sync
verb_of (cmd.Serve image cap key at links area newest bytes follow log) = verbs.Serve
verb_of (cmd.Watch image area) = verbs.Watch

-- a new key file
pub record HasKey (settings : List Setting) (name : String Global) (height : Height) : Type 0 where
  pub name_given : IsSetTo IsNameWord settings (codes "--name") name
  pub height_given : IsSetTo IsHeight settings (codes "--height") height

-- A first capability. There is a signer exactly where the namespace is not communal.
pub record HasGrant (settings : List Setting) (namespace : List ℕ) (mode : Mode) (user : List ℕ) (key : Option SignerWord) : Type 0 where
  pub namespace_given : IsSetTo IsKeyWord settings (codes "--namespace") namespace
  pub mode_given : IsSetTo IsMode settings (codes "--mode") mode
  pub user_given : IsSetTo IsKeyWord settings (codes "--user") user
  pub key_given : MayBeSet IsSignerWord settings (codes "--key") key
  pub key_due : is_some key ≡ not (is_communal namespace)

-- a capability that is handed on
pub record HasDelegate (settings : List Setting) (key : SignerWord) (to : List ℕ) (area : AreaWords) : Type 0 where
  pub key_given : IsSetTo IsSignerWord settings (codes "--key") key
  pub to_given : IsSetTo IsKeyWord settings (codes "--to") to
  pub area_given : HasArea settings area

-- a row
pub record HasWrite (settings : List Setting) (key : SignerWord) (path : List (List ℕ)) (time length : ℕ) (digest : Digest) (subspace : Option (List ℕ)) : Type 0 where
  pub key_given : IsSetTo IsSignerWord settings (codes "--key") key
  pub path_given : IsSetTo IsPathWord settings (codes "--path") path
  pub time_given : IsSetTo IsNumber settings (codes "--time") time
  pub length_given : IsSetTo IsNumber settings (codes "--length") length
  pub digest_given : IsSetTo IsDigestWord settings (codes "--digest") digest
  pub subspace_given : MayBeSet IsKeyWord settings (codes "--subspace") subspace

-- How much is offered: the newest rows, so many at most, and the bytes of their payloads together.
pub record HasInterest (settings : List Setting) (newest bytes : Option ℕ) : Type 0 where
  pub newest_given : MayBeSet IsCount settings (codes "--newest") newest
  pub bytes_given : MayBeSet IsNumber settings (codes "--bytes") bytes

-- two images that meet
pub record HasMeet (settings : List Setting) (left right left_cap right_cap left_out right_out : String Global) (area : AreaWords) (newest bytes : Option ℕ) : Type 0 where
  pub left_given : IsSetTo IsNameWord settings (codes "--left") left
  pub right_given : IsSetTo IsNameWord settings (codes "--right") right
  pub left_cap_given : IsSetTo IsNameWord settings (codes "--left-cap") left_cap
  pub right_cap_given : IsSetTo IsNameWord settings (codes "--right-cap") right_cap
  pub left_out_given : IsSetTo IsNameWord settings (codes "--left-out") left_out
  pub right_out_given : IsSetTo IsNameWord settings (codes "--right-out") right_out
  pub area_given : HasArea settings area
  pub interest_given : HasInterest settings newest bytes

-- a session as caller
pub record HasSync (settings : List Setting) (image cap : String Global) (key : SignerWord) (to : String Global) (area : AreaWords) (newest bytes : Option ℕ) (follow : Bool) : Type 0 where
  pub image_given : IsSetTo IsNameWord settings (codes "--image") image
  pub cap_given : IsSetTo IsNameWord settings (codes "--cap") cap
  pub key_given : IsSetTo IsSignerWord settings (codes "--key") key
  pub to_given : IsSetTo IsPlaceWord settings (codes "--to") to
  pub area_given : HasArea settings area
  pub interest_given : HasInterest settings newest bytes
  pub follow_given : IsAsked settings (codes "--follow") follow

-- sessions as answerer
pub record HasServe (settings : List Setting) (image cap : String Global) (key : SignerWord) (at : String Global) (links : ℕ) (area : AreaWords) (newest bytes : Option ℕ) (follow : Bool) (log : Option (String Global)) : Type 0 where
  pub image_given : IsSetTo IsNameWord settings (codes "--image") image
  pub cap_given : IsSetTo IsNameWord settings (codes "--cap") cap
  pub key_given : IsSetTo IsSignerWord settings (codes "--key") key
  pub at_given : IsSetTo IsPlaceWord settings (codes "--at") at
  pub links_given : IsSetTo IsLinks settings (codes "--links") links
  pub area_given : HasArea settings area
  pub interest_given : HasInterest settings newest bytes
  pub follow_given : IsAsked settings (codes "--follow") follow
  pub log_given : MayBeSet IsNameWord settings (codes "--log") log

-- Rows of an area that are told as they come. The area's times do not end at 0.
pub record HasWatch (settings : List Setting) (image : String Global) (area : AreaWords) : Type 0 where
  pub image_given : IsSetTo IsNameWord settings (codes "--image") image
  pub area_given : HasArea settings area
  pub some_time : area.until ≢ Some (Some 0)

-- the fields of the command are what the options give
abbrev pub HasValues : List Setting → Command → Type 0
HasValues settings (cmd.Join namespace) = IsSetTo IsKeyWord settings (codes "--namespace") namespace
HasValues settings (cmd.Show newest) = MayBeSet IsCount settings (codes "--newest") newest
HasValues settings (cmd.Key name height) = HasKey settings name height
HasValues settings (cmd.Grant namespace mode user key) = HasGrant settings namespace mode user key
HasValues settings (cmd.Delegate key to area) = HasDelegate settings key to area
HasValues settings (cmd.Write key path time length digest subspace) = HasWrite settings key path time length digest subspace
HasValues settings (cmd.Gen rows) = IsSetTo IsCount settings (codes "--rows") rows
HasValues settings (cmd.Drill rows) = IsSetTo IsCount settings (codes "--rows") rows
HasValues settings (cmd.Meet left right left_cap right_cap left_out right_out area newest bytes) = HasMeet settings left right left_cap right_cap left_out right_out area newest bytes
HasValues settings (cmd.Sync image cap key to area newest bytes follow) = HasSync settings image cap key to area newest bytes follow
HasValues settings (cmd.Serve image cap key at links area newest bytes follow log) = HasServe settings image cap key at links area newest bytes follow log
HasValues settings (cmd.Watch image area) = HasWatch settings image area

-- it is this command, with what the options give
abbrev pub IsOf : Verb → List Setting → Command → Type 0
IsOf verb settings command = (verb_of command ≡ verb) × HasValues settings command

-- the words spell the command: its word, and then its options with what they give
pub record IsWords (words : List (List ℕ)) (command : Command) : Type 0 where
  pub word : List ℕ
  pub others : List (List ℕ)
  pub settings : List Setting
  pub spelled : words ≡ word ∷ others
  pub named : verb_at word ≡ Some (verb_of command)
  pub options : IsSpelled (names_of (verb_of command)) others settings
  pub values : HasValues settings command

-- the words spell no command
abbrev pub IsNoCommand : List (List ℕ) → Type 0
IsNoCommand words = (command : Command) → IsWords words command → ⊥

-- The command read is the one that the words spell, and they are refused only where they spell none; for want
-- of memory nothing is said.
abbrev pub ReadsWords : List (List ℕ) → Result Command (End Usage) → Type 0
ReadsWords words = Reads (IsWords words)
