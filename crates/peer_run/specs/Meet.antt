-- What `meet` does: two images meet in an area that two capabilities let both read.
use Rattle.std.specs.Prelude.{◌≡◌, ◌⊎◌, ℕ, not, List, replicate, Option, Some, None, Result, Ok, Err}
use Rattle.std.specs.String.{string_bytes}
use Rattle.std.specs.declared.string.String.{String}
use Rattle.std.specs.declared.alloc.Global.{Global}
use Rattle.spelling.specs.Answers.{or_else, cause_if}
use Rattle.willow_area.specs.declared.area.Area.{Area}
use Rattle.willow_entry.specs.Entry.{same_bytes}
use Rattle.mc_cap.specs.declared.capability.Capability.{Capability}
use Rattle.session_end.specs.declared.refusal.HelloRefusal.{HelloRefusal}
use Rattle.session_end.specs.declared.refusal.HelloRefusal.TheVariants.{WrongNamespace}
use Rattle.sync_hello.specs.Common.{common_area}
use Rattle.sync_hello.specs.declared.hello.Hello.{Hello}
use Rattle.peer_words.specs.declared.command.AreaWords.{AreaWords}
use Rattle.peer_stage.specs.Shelves.{PutsBytes}
use Rattle.peer_stage.specs.Stages.{Writes}
use Rattle.peer_stage.specs.Steps.{Step, Then, Inside, OnShelf, OnOutput}
use Rattle.peer_stage.specs.declared.outcome.Done.{Done}
use Rattle.peer_stage.specs.declared.outcome.Done.TheVariants as done
use Rattle.peer_stage.specs.declared.outcome.Stop.{Stop}
use Rattle.peer_stage.specs.declared.outcome.Stop.TheVariants as stop
use Rattle.peer_run.specs.Getting.{GetsImage, GetsCapability}
use Rattle.peer_run.specs.Greeting.{GreetingAsks, own_hello, own_refusal}
use Rattle.peer_run.specs.ImagesMet.{MeetsImages}
use Rattle.peer_run.specs.declared.images_met.Met.{Met}
use Rattle.peer_run.specs.declared.meeting.MeetWords.{MeetWords}
use Rattle.peer_run.specs.declared.meeting.Sides.{Sides}

-- ---- what is got

-- it gives just this
abbrev pub Yields : {A : Type 0} → A → Result A Stop → Type 0
Yields value (Ok a) = a ≡ value
Yields value (Err e) = ⊥

-- It gets both images, and then both capabilities.
abbrev pub Gathers : String Global → String Global → String Global → String Global → Step Sides
Gathers left right left_cap right_cap =
    Then (GetsImage left) (λ a.
    Then (GetsImage right) (λ b.
    Then (GetsCapability left_cap) (λ c.
    Then (GetsCapability right_cap) (λ d.
    Inside (Yields (record { left = a; right = b; left_cap = c; right_cap = d }))))))

-- ---- what is agreed

-- the hello of a side, whose nonce is 16 zeros: it serves in no session
abbrev pub side_hello : AreaWords → Capability → Hello
side_hello words c = own_hello words c (replicate 16 0)

-- the second namespace is another one
abbrev pub namespaces_refusal : List ℕ → List ℕ → Option HelloRefusal
namespaces_refusal n m = cause_if (not (same_bytes m n)) WrongNamespace

-- why two sides with capabilities c and d do not meet: their images are of different namespaces, n and m; something is
-- against the first hello, or against the second
unfoldable pub meeting_refusal : AreaWords → List ℕ → List ℕ → Capability → Capability → Option HelloRefusal
meeting_refusal words n m c d = or_else (namespaces_refusal n m) (or_else (own_refusal n (side_hello words c)) (own_refusal n (side_hello words d)))

-- the area that both sides may read
abbrev pub agreed_area : AreaWords → Capability → Capability → Option Area
agreed_area words c d = common_area (side_hello words c) (side_hello words d)

-- Memory was wanting: the namespaces are one. It was for a hello, or nothing is against that one; a hello is judged behind the
-- one before it.
pub record IsUnagreed (words : AreaWords) (n m : List ℕ) (c d : Capability) : Type 0 where
  pub one_namespace : namespaces_refusal n m ≡ None
  pub left : GreetingAsks words c ⊎ (own_refusal n (side_hello words c) ≡ None)
  pub right : GreetingAsks words c ⊎ (GreetingAsks words d ⊎ (own_refusal n (side_hello words d) ≡ None))

-- that area, where nothing is against the meeting
abbrev pub Agrees : AreaWords → List ℕ → List ℕ → Capability → Capability → Result (Option Area) Stop → Type 0
Agrees words n m c d (Ok area) = (meeting_refusal words n m c d ≡ None) × (area ≡ agreed_area words c d)
Agrees words n m c d (Err (stop.SessionRefused refusal)) = meeting_refusal words n m c d ≡ Some refusal
Agrees words n m c d (Err stop.NoMemory) = IsUnagreed words n m c d
Agrees words n m c d (Err e) = ⊥

-- ---- what is put and written

-- It puts the left image, then the right one, and writes the transcript.
abbrev pub Puts : String Global → String Global → Met → Step Done
Puts left_out right_out met =
    Then (OnShelf (PutsBytes (string_bytes left_out) met.left.items)) (λ left.
    Then (OnShelf (PutsBytes (string_bytes right_out) met.right.items)) (λ right.
    OnOutput (Writes met.transcript.items (done.Met met.counts))))

-- ---- the command

-- It gets both images and both capabilities, agrees on an area, lets the images meet there within the limits of the words, puts
-- what comes of them, and writes what was said.
abbrev pub Meets : MeetWords → Step Done
Meets words =
    Then (Gathers words.left words.right words.left_cap words.right_cap) (λ s.
    Then (Inside (Agrees words.area s.left.namespace s.right.namespace s.left_cap s.right_cap)) (λ area.
    Then (Inside (MeetsImages s.left.namespace s.left.rows.items s.right.rows.items area words.limits)) (λ met.
    Puts words.left_out words.right_out met)))
