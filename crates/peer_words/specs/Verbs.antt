-- The words that name the commands, and the options of each.
use Rattle.std.specs.Prelude.{ℕ, List, [], ◌∷◌, ◌++◌, Option, Some, None, if◌then◌else◌, codes}
use Rattle.std.specs.Str.{bytes_eq}
use Rattle.peer_words.specs.declared.verb.Verb.{Verb}
use Rattle.peer_words.specs.declared.verb.Verb.TheVariants.{Join, Show, Key, Grant, Delegate, Write, Gen, Drill, Meet, Sync, Serve, Watch}

-- the command that a word names
abbrev pub verb_at : List ℕ → Option Verb
verb_at word =
    if bytes_eq word (codes "join") then Some Join else
    if bytes_eq word (codes "show") then Some Show else
    if bytes_eq word (codes "key") then Some Key else
    if bytes_eq word (codes "grant") then Some Grant else
    if bytes_eq word (codes "delegate") then Some Delegate else
    if bytes_eq word (codes "write") then Some Write else
    if bytes_eq word (codes "gen") then Some Gen else
    if bytes_eq word (codes "drill") then Some Drill else
    if bytes_eq word (codes "meet") then Some Meet else
    if bytes_eq word (codes "sync") then Some Sync else
    if bytes_eq word (codes "serve") then Some Serve else
    if bytes_eq word (codes "watch") then Some Watch else None

-- the options that say an area
abbrev pub area_names : List (List ℕ)
area_names = codes "--subspace" ∷ codes "--under" ∷ codes "--from" ∷ codes "--until" ∷ []

-- the options that say how much is offered
abbrev pub interest_names : List (List ℕ)
interest_names = codes "--newest" ∷ codes "--bytes" ∷ []

-- the options of `meet` that name its files
abbrev pub meet_names : List (List ℕ)
meet_names = codes "--left" ∷ codes "--right" ∷ codes "--left-cap" ∷ codes "--right-cap" ∷ codes "--left-out" ∷ codes "--right-out" ∷ []

-- the options of `serve`, but for those that say an area and how much is offered
abbrev pub serve_names : List (List ℕ)
serve_names = codes "--image" ∷ codes "--cap" ∷ codes "--key" ∷ codes "--at" ∷ codes "--links" ∷ codes "--follow" ∷ codes "--log" ∷ []

-- the options of each command
abbrev pub names_of : Verb → List (List ℕ)
names_of Join = codes "--namespace" ∷ []
names_of Show = codes "--newest" ∷ []
names_of Key = codes "--name" ∷ codes "--height" ∷ []
names_of Grant = codes "--namespace" ∷ codes "--mode" ∷ codes "--user" ∷ codes "--key" ∷ []
names_of Delegate = codes "--key" ∷ codes "--to" ∷ area_names
names_of Write = codes "--key" ∷ codes "--path" ∷ codes "--time" ∷ codes "--length" ∷ codes "--digest" ∷ codes "--subspace" ∷ []
names_of Gen = codes "--rows" ∷ []
names_of Drill = codes "--rows" ∷ []
names_of Meet = meet_names ++ (interest_names ++ area_names)
names_of Sync = codes "--image" ∷ codes "--cap" ∷ codes "--key" ∷ codes "--to" ∷ codes "--follow" ∷ (interest_names ++ area_names)
names_of Serve = serve_names ++ (interest_names ++ area_names)
names_of Watch = codes "--image" ∷ area_names
