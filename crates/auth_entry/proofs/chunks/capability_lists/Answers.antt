use Rattle.std.proofs.Common.{◌≡◌, List, Bor, Option, IfOk, map, max, flat_map, refl, ap, ◌∙◌, arith}
use Rattle.std.proofs.lemmas.List.{map-append}
use Rattle.std.specs.Global.{Vec}
use Rattle.std.specs.List.{AllZip}
use Rattle.rayon.proofs.ListFacts.{IfOk-then}
use Rattle.rayon.specs.Lists.{chunks_of, chunks_size, chunks_slice}
use Rattle.mc_cap.specs.declared.capability.Capability.{Capability}
use Rattle.mc_cap.specs.declared.refusal.RowRefusal.{RowRefusal}
use Rattle.cap_codec.specs.Rows.{RawValue}
use Rattle.auth_entry.specs.Authorised.{capability_refusal}
use Rattle.auth_entry.specs.Places.{carried}
use Rattle.auth_entry.proofs.Parts.{chunks_joined}
use Rattle.auth_entry.proofs.Lists.{collected}
use Rattle.auth_entry.proofs.chunks.capability_lists.Goals as goal

pub returns : goal.returns
returns g c =
    let refusal : Capability → Option RowRefusal = capability_refusal g.S.Verify.rules in
    let capability : Bor RawValue → Capability = λ row. row.now.token.capability in
    let rows = c.args.rows.now in
    let lists = c.in_ok-lists.lists in
    let chain = c.in_ok-lists.ensures in
    let chunks = ap (λ it. chunks_of (max (chunks_size it) 1) (chunks_slice it)) c.map.ensures.base ∙ ap (λ n. chunks_of (max n 1) (chunks_slice c.par_chunks.result)) c.par_chunks.ensures.size ∙ ap (chunks_of 256) c.par_chunks.ensures.slice in
    let all = collected (λ (chunk : List (Bor RawValue)) (v : Vec (Option RowRefusal)). v.items ≡ map refusal (carried chunk)) (chunks_of 256 rows) chain.1.0 chain.0 lists (chain.1.1 ∙ chunks) chain.1.2 chain.2 in
    IfOk-then lists (λ ls. AllZip (λ (chunk : List (Bor RawValue)) (v : Vec (Option RowRefusal)). v.items ≡ map refusal (carried chunk)) (chunks_of 256 rows) ls.items)
    (λ ls. flat_map (λ (v : Vec (Option RowRefusal)). v.items) ls.items ≡ map refusal (carried rows)) all
    (λ ls each. chunks_joined (λ (xs : List (Bor RawValue)). map refusal (carried xs)) 256 rows ls.items (omega arith) refl
    (λ xs ys. ap (map refusal) (map-append capability xs ys) ∙ map-append refusal (map capability xs) (map capability ys)) each)
