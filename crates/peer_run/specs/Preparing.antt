-- What a side brings to sessions besides what signs: the log of its image, and a hello against which nothing is.
use Rattle.std.specs.Prelude.{ℕ, List, ◌++◌, take, replicate}
use Rattle.std.specs.declared.option.Option.{Option}
use Rattle.std.specs.declared.string.String.{String}
use Rattle.std.specs.declared.alloc.Global.{Global}
use Rattle.cap_codec.specs.Rows.{RawValue}
use Rattle.lms_core.specs.declared.scheme.PeerScheme.{PeerScheme}
use Rattle.area_interest.specs.declared.interest.Interest.{Interest}
use Rattle.sync_msg.specs.declared.role.Role.{Role}
use Rattle.sync_hello.specs.declared.hello.Hello.{Hello}
use Rattle.sync_link.specs.declared.plan.SessionPlan.{SessionPlan}
use Rattle.peer_words.specs.declared.command.AreaWords.{AreaWords}
use Rattle.peer_stage.specs.Steps.{Step, Then, Inside}
use Rattle.peer_run.specs.Getting.{GetsImage, GetsCapability}
use Rattle.peer_run.specs.Greeting.{Greets}
use Rattle.peer_run.specs.LogFiles.{FileState}
use Rattle.peer_run.specs.LogOpening.{OpensFile}
use Rattle.peer_run.specs.Meet.{Yields}
use Rattle.peer_run.specs.Opening.{OpensLog}
use Rattle.peer_run.specs.declared.preparing.Prepared.{Prepared}

-- 16 zeros: the own hello is judged before anything is drawn
abbrev pub no_nonce : List ℕ
no_nonce = replicate 16 0

-- Behind an image and a log file with these rows: the authorised ones are its log. Then it gets the capability, and judges its own
-- hello.
abbrev pub PreparesBehind : List ℕ → List RawValue → String Global → AreaWords → Step Prepared
PreparesBehind namespace rows cap area =
    Then (Inside (OpensLog namespace rows)) (λ opening.
    Then (GetsCapability cap) (λ c.
    Then (Inside (Greets namespace area c no_nonce)) (λ h.
    Inside (Yields (record { opening = opening; hello = h })))))

-- It gets the image, and opens the log file of this name, if there is one, which stands so behind it.
abbrev pub Prepares : String Global → String Global → AreaWords → Option (String Global) → Option FileState → Step Prepared
Prepares image cap area log file =
    Then (GetsImage image) (λ i.
    Then (OpensFile log file i.namespace) (λ filed.
    PreparesBehind i.namespace (i.rows.items ++ filed.items) cap area))

-- the plan of a side of this role that says this of itself, and offers as much as the limits leave
abbrev pub plan_of : Role → Hello → Interest → SessionPlan PeerScheme
plan_of role h limits = record { scheme = record {}; version = h.version; role = role; capability = h.capability; ask = h.ask; interest = limits }

-- the nonce of a draw: its first 16 bytes
abbrev pub nonce_of : List ℕ → List ℕ
nonce_of words = take 16 words
