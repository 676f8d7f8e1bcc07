-- A line at its spaces: it spells one thing, and no newline stands in it.
use Rattle.std.proofs.Common.{◌≡◌, ◌≢◌, ℕ, ◌<◌, List, [], ◌∷◌, ◌++◌, codes, Option, Some, None, MatchOption, refl, sym, ap, subst, ◌∙◌, arith}
use Rattle.hex.specs.Hex.{hex_digit_value}
use Rattle.peer_words.specs.Values.{IsAnyOrKey, IsNumber, IsNumberWithin}
use Rattle.peer_words.proofs.Numbers.{one_number}
use Rattle.mesh_lines.specs.Cuts.{Lacks, IsCut}
use Rattle.mesh_lines.specs.Lines.{AreOffer, AreMeet, AreSame, IsNode, IsFirstLine, IsLine}
use Rattle.mesh_lines.specs.declared.line.MeshLine.{MeshLine}
use Rattle.mesh_lines.specs.declared.line.MeshLine.TheVariants.{Offer, Meet, Same}
use Rattle.mesh_lines.specs.declared.line.TheConstants.{LAST_ROW, MOST_NODES}
use Rattle.mesh_lines.proofs.Cuts.{one_cut, no_cut, lacks_both}
use Rattle.mesh_lines.proofs.Words.{number_lacks, subspace_lacks, one_node, one_within, one_subspace}
use Rattle.mesh_lines.proofs.Verbs.{behind_nodes, OffersLine, MeetsLine, SameLine, offers, meets, sames}

-- ---- words at their first space

node_lacks : (mark : ℕ) → mark < 48 → (nodes : ℕ) (word : List ℕ) (node : ℕ) → IsNode nodes word node → Lacks mark word
node_lacks mark low nodes word node is = number_lacks mark low word node is.number

any_lacks : (mark : ℕ) → mark < 48 → Lacks mark (codes "any")
any_lacks mark low = (λ same. absurd (omega (arith, low, same)), (λ same. absurd (omega (arith, low, same)), (λ same. absurd (omega (arith, low, same)), tt)))

-- the first of two words, and the other
cut_at : (words front others i rest : List ℕ) → IsCut 32 words front others → words ≡ i ++ 32 ∷ rest → Lacks 32 i → (front ≡ i) × (others ≡ rest)
cut_at words front others i rest cut spelled lacks = one_cut 32 front i others rest (sym cut.whole ∙ spelled) cut.first lacks

uncut : (words i rest : List ℕ) → Lacks 32 words → words ≡ i ++ 32 ∷ rest → ⊥
uncut words i rest lacks spelled = no_cut 32 i rest (subst (λ (w : List ℕ). Lacks 32 w) spelled lacks)

-- no mark stands in a verb
offer_word : (mark : ℕ) → mark < 48 → Lacks mark (codes "offer")
offer_word mark low = (λ same. absurd (omega (arith, low, same)), (λ same. absurd (omega (arith, low, same)), (λ same. absurd (omega (arith, low, same)), (λ same. absurd (omega (arith, low, same)), (λ same. absurd (omega (arith, low, same)), tt)))))

meet_word : (mark : ℕ) → mark < 48 → Lacks mark (codes "meet")
meet_word mark low = (λ same. absurd (omega (arith, low, same)), (λ same. absurd (omega (arith, low, same)), (λ same. absurd (omega (arith, low, same)), (λ same. absurd (omega (arith, low, same)), tt))))

same_word : (mark : ℕ) → mark < 48 → Lacks mark (codes "same")
same_word mark low = (λ same. absurd (omega (arith, low, same)), (λ same. absurd (omega (arith, low, same)), (λ same. absurd (omega (arith, low, same)), (λ same. absurd (omega (arith, low, same)), tt))))

nodes_word : (mark : ℕ) → mark < 48 → Lacks mark (codes "nodes")
nodes_word mark low = (λ same. absurd (omega (arith, low, same)), (λ same. absurd (omega (arith, low, same)), (λ same. absurd (omega (arith, low, same)), (λ same. absurd (omega (arith, low, same)), (λ same. absurd (omega (arith, low, same)), tt)))))

-- ---- a line by its verb

pub behind_verb : (line verb words word : List ℕ) → IsCut 32 line verb words → verb ≡ word → line ≡ word ++ 32 ∷ words
behind_verb line verb words word cut same = cut.whole ∙ ap (λ (w : List ℕ). w ++ 32 ∷ words) same

pub read_behind : (nodes : ℕ) (line other : List ℕ) (r : Option MeshLine) → line ≡ other → MatchOption r ((l : MeshLine) → IsLine nodes other l → ⊥) (IsLine nodes other) → MatchOption r ((l : MeshLine) → IsLine nodes line l → ⊥) (IsLine nodes line)
read_behind nodes line other r same read = subst (λ (w : List ℕ). MatchOption r ((l : MeshLine) → IsLine nodes w l → ⊥) (IsLine nodes w)) (sym same) read

pub no_verb : (nodes : ℕ) (line verb words : List ℕ) → IsCut 32 line verb words → (verb ≡ codes "offer" → ⊥) → (verb ≡ codes "meet" → ⊥) → (verb ≡ codes "same" → ⊥) → (l : MeshLine) → IsLine nodes line l → ⊥
no_verb nodes line verb words cut offers meets sames (Offer node row) is = offers (cut_at line verb words (codes "offer") is.0 cut is.1 (offer_word 32 (omega arith))).0
no_verb nodes line verb words cut offers meets sames (Meet left right subspace from) is = meets (cut_at line verb words (codes "meet") is.0 cut is.1 (meet_word 32 (omega arith))).0
no_verb nodes line verb words cut offers meets sames (Same left right) is = sames (cut_at line verb words (codes "same") is.0 cut is.1 (same_word 32 (omega arith))).0

pub no_words : (nodes : ℕ) (line : List ℕ) → Lacks 32 line → (l : MeshLine) → IsLine nodes line l → ⊥
no_words nodes line lacks (Offer node row) is = uncut line (codes "offer") is.0 lacks is.1
no_words nodes line lacks (Meet left right subspace from) is = uncut line (codes "meet") is.0 lacks is.1
no_words nodes line lacks (Same left right) is = uncut line (codes "same") is.0 lacks is.1

-- ---- the first line

pub no_first_words : (line : List ℕ) → Lacks 32 line → (n : ℕ) → IsFirstLine line n → ⊥
no_first_words line lacks n is = uncut line (codes "nodes") is.n lacks is.spelled

first_words : (line verb words : List ℕ) (n : ℕ) → IsCut 32 line verb words → (is : IsFirstLine line n) → (verb ≡ codes "nodes") × (words ≡ is.n)
first_words line verb words n cut is = cut_at line verb words (codes "nodes") is.n cut is.spelled (nodes_word 32 (omega arith))

pub no_first_verb : (line verb words : List ℕ) → IsCut 32 line verb words → (verb ≡ codes "nodes" → ⊥) → (n : ℕ) → IsFirstLine line n → ⊥
no_first_verb line verb words cut other n is = other (first_words line verb words n cut is).0

first_number : (line verb words : List ℕ) (n : ℕ) → IsCut 32 line verb words → IsFirstLine line n → IsNumberWithin 1 MOST_NODES words n
first_number line verb words n cut is = subst (λ (w : List ℕ). IsNumberWithin 1 MOST_NODES w n) (sym (first_words line verb words n cut is).1) is.number

pub first_read : (line verb words : List ℕ) (r : Option ℕ) → IsCut 32 line verb words → verb ≡ codes "nodes" → MatchOption r ((n : ℕ) → IsNumberWithin 1 MOST_NODES words n → ⊥) (IsNumberWithin 1 MOST_NODES words)
    → MatchOption r ((n : ℕ) → IsFirstLine line n → ⊥) (IsFirstLine line)
first_read line verb words None cut is none = λ n first. none n (first_number line verb words n cut first)
first_read line verb words (Some n) cut is number = record { n = words; spelled = behind_verb line verb words (codes "nodes") cut is; number = number }

-- ---- what is offered

pub record OfferAt (nodes : ℕ) (front others : List ℕ) (l : MeshLine) : Type 0 where
  pub node : ℕ
  pub row : ℕ
  pub is_offer : l ≡ Offer node row
  pub is_node : IsNode nodes front node
  pub is_row : IsNumberWithin 0 LAST_ROW others row

offer_words : (nodes : ℕ) (words front others : List ℕ) (l : MeshLine) → IsCut 32 words front others → OffersLine nodes words l → OfferAt nodes front others l
offer_words nodes words front others (Offer node row) cut is =
    let same = cut_at words front others is.i is.r cut is.spelled (node_lacks 32 (omega arith) nodes is.i node is.is_node) in
    record {
      node = node;
      row = row;
      is_offer = refl;
      is_node = subst (λ (w : List ℕ). IsNode nodes w node) (sym same.0) is.is_node;
      is_row = subst (λ (w : List ℕ). IsNumberWithin 0 LAST_ROW w row) (sym same.1) is.is_row;
    }
offer_words nodes words front others (Meet left right subspace from) cut is = absurd is
offer_words nodes words front others (Same left right) cut is = absurd is

pub offer_at : (nodes : ℕ) (words front others : List ℕ) (l : MeshLine) → IsCut 32 words front others → IsLine nodes (codes "offer " ++ words) l → OfferAt nodes front others l
offer_at nodes words front others l cut is = offer_words nodes words front others l cut (offers nodes words l is)

no_offer_words : (nodes : ℕ) (words : List ℕ) (l : MeshLine) → Lacks 32 words → OffersLine nodes words l → ⊥
no_offer_words nodes words (Offer node row) lacks is = uncut words is.i is.r lacks is.spelled
no_offer_words nodes words (Meet left right subspace from) lacks is = is
no_offer_words nodes words (Same left right) lacks is = is

pub no_offer : (nodes : ℕ) (words : List ℕ) → Lacks 32 words → (l : MeshLine) → IsLine nodes (codes "offer " ++ words) l → ⊥
no_offer nodes words lacks l is = no_offer_words nodes words l lacks (offers nodes words l is)

-- ---- what is compared

pub record SameAt (nodes : ℕ) (front others : List ℕ) (l : MeshLine) : Type 0 where
  pub left : ℕ
  pub right : ℕ
  pub is_same : l ≡ Same left right
  pub is_left : IsNode nodes front left
  pub is_right : IsNode nodes others right

same_words : (nodes : ℕ) (words front others : List ℕ) (l : MeshLine) → IsCut 32 words front others → SameLine nodes words l → SameAt nodes front others l
same_words nodes words front others (Same left right) cut is =
    let same = cut_at words front others is.i is.j cut is.spelled (node_lacks 32 (omega arith) nodes is.i left is.is_left) in
    record {
      left = left;
      right = right;
      is_same = refl;
      is_left = subst (λ (w : List ℕ). IsNode nodes w left) (sym same.0) is.is_left;
      is_right = subst (λ (w : List ℕ). IsNode nodes w right) (sym same.1) is.is_right;
    }
same_words nodes words front others (Meet left right subspace from) cut is = absurd is
same_words nodes words front others (Offer node row) cut is = absurd is

pub same_at : (nodes : ℕ) (words front others : List ℕ) (l : MeshLine) → IsCut 32 words front others → IsLine nodes (codes "same " ++ words) l → SameAt nodes front others l
same_at nodes words front others l cut is = same_words nodes words front others l cut (sames nodes words l is)

no_same_words : (nodes : ℕ) (words : List ℕ) (l : MeshLine) → Lacks 32 words → SameLine nodes words l → ⊥
no_same_words nodes words (Same left right) lacks is = uncut words is.i is.j lacks is.spelled
no_same_words nodes words (Meet left right subspace from) lacks is = is
no_same_words nodes words (Offer node row) lacks is = is

pub no_same : (nodes : ℕ) (words : List ℕ) → Lacks 32 words → (l : MeshLine) → IsLine nodes (codes "same " ++ words) l → ⊥
no_same nodes words lacks l is = no_same_words nodes words l lacks (sames nodes words l is)

-- ---- which nodes meet, and over what

-- the words behind the first, the second and the third
pub record MeetFrom (nodes : ℕ) (front others : List ℕ) (l : MeshLine) : Type 0 where
  pub left : ℕ
  pub right : ℕ
  pub subspace : Option (List ℕ)
  pub from : ℕ
  pub is_meet : l ≡ Meet left right subspace from
  pub j : List ℕ
  pub x : List ℕ
  pub t : List ℕ
  pub spelled : others ≡ j ++ 32 ∷ (x ++ 32 ∷ t)
  pub is_left : IsNode nodes front left
  pub is_right : IsNode nodes j right
  pub apart : left ≢ right
  pub is_subspace : IsAnyOrKey x subspace
  pub is_from : IsNumber t from

meet_words : (nodes : ℕ) (words front others : List ℕ) (l : MeshLine) → IsCut 32 words front others → MeetsLine nodes words l → MeetFrom nodes front others l
meet_words nodes words front others (Meet left right subspace from) cut is =
    let same = cut_at words front others is.i (is.j ++ 32 ∷ (is.x ++ 32 ∷ is.t)) cut is.spelled (node_lacks 32 (omega arith) nodes is.i left is.is_left) in
    record {
      left = left;
      right = right;
      subspace = subspace;
      from = from;
      is_meet = refl;
      j = is.j;
      x = is.x;
      t = is.t;
      spelled = same.1;
      is_left = subst (λ (w : List ℕ). IsNode nodes w left) (sym same.0) is.is_left;
      is_right = is.is_right;
      apart = is.apart;
      is_subspace = is.is_subspace;
      is_from = is.is_from;
    }
meet_words nodes words front others (Offer node row) cut is = absurd is
meet_words nodes words front others (Same left right) cut is = absurd is

pub meet_from : (nodes : ℕ) (words front others : List ℕ) (l : MeshLine) → IsCut 32 words front others → IsLine nodes (codes "meet " ++ words) l → MeetFrom nodes front others l
meet_from nodes words front others l cut is = meet_words nodes words front others l cut (meets nodes words l is)

no_meet_words : (nodes : ℕ) (words : List ℕ) (l : MeshLine) → Lacks 32 words → MeetsLine nodes words l → ⊥
no_meet_words nodes words (Meet left right subspace from) lacks is = uncut words is.i (is.j ++ 32 ∷ (is.x ++ 32 ∷ is.t)) lacks is.spelled
no_meet_words nodes words (Offer node row) lacks is = is
no_meet_words nodes words (Same left right) lacks is = is

pub no_meet : (nodes : ℕ) (words : List ℕ) → Lacks 32 words → (l : MeshLine) → IsLine nodes (codes "meet " ++ words) l → ⊥
no_meet nodes words lacks l is = no_meet_words nodes words l lacks (meets nodes words l is)

pub no_right : (nodes : ℕ) (words front others : List ℕ) → IsCut 32 words front others → Lacks 32 others → (l : MeshLine) → IsLine nodes (codes "meet " ++ words) l → ⊥
no_right nodes words front others cut lacks l is =
    let m = meet_from nodes words front others l cut is in
    uncut others m.j (m.x ++ 32 ∷ m.t) lacks m.spelled

-- all words, where each is cut at its space
module _ (nodes : ℕ) (words a others b rest : List ℕ) (first : IsCut 32 words a others) (second : IsCut 32 others b rest) (l : MeshLine) (is : IsLine nodes (codes "meet " ++ words) l) where
  pub meeting : MeetFrom nodes a others l
  meeting = meet_from nodes words a others l first is

  second_cut : (b ≡ meeting.j) × (rest ≡ meeting.x ++ 32 ∷ meeting.t)
  second_cut = cut_at others b rest meeting.j (meeting.x ++ 32 ∷ meeting.t) second meeting.spelled (node_lacks 32 (omega arith) nodes meeting.j meeting.right meeting.is_right)

  pub no_subspace : Lacks 32 rest → ⊥
  no_subspace lacks = uncut rest meeting.x meeting.t lacks second_cut.1

  pub left_is : IsNode nodes a meeting.left
  left_is = meeting.is_left

  pub right_is : IsNode nodes b meeting.right
  right_is = subst (λ (w : List ℕ). IsNode nodes w meeting.right) (sym second_cut.0) meeting.is_right

  pub not_alone : (left right : ℕ) → IsNode nodes a left → IsNode nodes b right → left ≡ right → ⊥
  not_alone left right is_left is_right same = meeting.apart (one_node nodes a meeting.left left left_is is_left ∙ same ∙ one_node nodes b right meeting.right is_right right_is)

  module _ (x t : List ℕ) (third : IsCut 32 rest x t) where
    third_cut : (x ≡ meeting.x) × (t ≡ meeting.t)
    third_cut = cut_at rest x t meeting.x meeting.t third second_cut.1 (subspace_lacks 32 refl (any_lacks 32 (omega arith)) meeting.x meeting.subspace meeting.is_subspace)

    pub subspace_is : IsAnyOrKey x meeting.subspace
    subspace_is = subst (λ (w : List ℕ). IsAnyOrKey w meeting.subspace) (sym third_cut.0) meeting.is_subspace

    pub from_is : IsNumber t meeting.from
    from_is = subst (λ (w : List ℕ). IsNumber w meeting.from) (sym third_cut.1) meeting.is_from

-- ---- what is read of the words behind a verb

module _ (nodes : ℕ) (words front others : List ℕ) (cut : IsCut 32 words front others) where
  pub no_offered_node : ((node : ℕ) → IsNode nodes front node → ⊥) → (l : MeshLine) → IsLine nodes (codes "offer " ++ words) l → ⊥
  no_offered_node none l is = let at = offer_at nodes words front others l cut is in none at.node at.is_node

  pub no_offered_row : ((row : ℕ) → IsNumberWithin 0 LAST_ROW others row → ⊥) → (l : MeshLine) → IsLine nodes (codes "offer " ++ words) l → ⊥
  no_offered_row none l is = let at = offer_at nodes words front others l cut is in none at.row at.is_row

  pub is_offer : (node row : ℕ) → IsNode nodes front node → IsNumberWithin 0 LAST_ROW others row → IsLine nodes (codes "offer " ++ words) (Offer node row)
  is_offer node row is_node is_row = (words, refl, record { i = front; r = others; spelled = cut.whole; is_node = is_node; is_row = is_row })

  pub no_same_left : ((node : ℕ) → IsNode nodes front node → ⊥) → (l : MeshLine) → IsLine nodes (codes "same " ++ words) l → ⊥
  no_same_left none l is = let at = same_at nodes words front others l cut is in none at.left at.is_left

  pub no_same_right : ((node : ℕ) → IsNode nodes others node → ⊥) → (l : MeshLine) → IsLine nodes (codes "same " ++ words) l → ⊥
  no_same_right none l is = let at = same_at nodes words front others l cut is in none at.right at.is_right

  pub is_same : (left right : ℕ) → IsNode nodes front left → IsNode nodes others right → IsLine nodes (codes "same " ++ words) (Same left right)
  is_same left right is_left is_right = (words, refl, record { i = front; j = others; spelled = cut.whole; is_left = is_left; is_right = is_right })

module _ (nodes : ℕ) (words a others b rest : List ℕ) (first : IsCut 32 words a others) (second : IsCut 32 others b rest) where
  pub no_time : Lacks 32 rest → (l : MeshLine) → IsLine nodes (codes "meet " ++ words) l → ⊥
  no_time lacks l is = no_subspace nodes words a others b rest first second l is lacks

  pub no_left : ((node : ℕ) → IsNode nodes a node → ⊥) → (l : MeshLine) → IsLine nodes (codes "meet " ++ words) l → ⊥
  no_left none l is = none _ (left_is nodes words a others b rest first second l is)

  pub no_other : ((node : ℕ) → IsNode nodes b node → ⊥) → (l : MeshLine) → IsLine nodes (codes "meet " ++ words) l → ⊥
  no_other none l is = none _ (right_is nodes words a others b rest first second l is)

  pub not_itself : (left right : ℕ) → IsNode nodes a left → IsNode nodes b right → left ≡ right → (l : MeshLine) → IsLine nodes (codes "meet " ++ words) l → ⊥
  not_itself left right is_left is_right same l is = not_alone nodes words a others b rest first second l is left right is_left is_right same

  module _ (x t : List ℕ) (third : IsCut 32 rest x t) where
    pub no_key : ((subspace : Option (List ℕ)) → IsAnyOrKey x subspace → ⊥) → (l : MeshLine) → IsLine nodes (codes "meet " ++ words) l → ⊥
    no_key none l is = none _ (subspace_is nodes words a others b rest first second l is x t third)

    pub no_from : ((n : ℕ) → IsNumber t n → ⊥) → (l : MeshLine) → IsLine nodes (codes "meet " ++ words) l → ⊥
    no_from none l is = none _ (from_is nodes words a others b rest first second l is x t third)

    pub is_meet : (left right : ℕ) (subspace : Option (List ℕ)) (from : ℕ) → IsNode nodes a left → IsNode nodes b right → left ≢ right → IsAnyOrKey x subspace → IsNumber t from
        → IsLine nodes (codes "meet " ++ words) (Meet left right subspace from)
    is_meet left right subspace from is_left is_right apart is_subspace is_from = (
      words,
      refl,
      record {
        i = a;
        j = b;
        x = x;
        t = t;
        spelled = first.whole ∙ ap (λ (l : List ℕ). a ++ 32 ∷ l) (second.whole ∙ ap (λ (l : List ℕ). b ++ 32 ∷ l) third.whole);
        is_left = is_left;
        is_right = is_right;
        apart = apart;
        is_subspace = is_subspace;
        is_from = is_from;
      },
    )

-- ---- one meaning

-- a word in front of others is cut at its space
front_cut : (words i rest : List ℕ) → words ≡ i ++ 32 ∷ rest → Lacks 32 i → IsCut 32 words i rest
front_cut words i rest spelled lacks = record { whole = spelled; first = lacks }

offer_same : (nodes : ℕ) (words : List ℕ) (node row : ℕ) (l : MeshLine) → AreOffer nodes words node row → OffersLine nodes words l → Offer node row ≡ l
offer_same nodes words node row l are is =
    let at = offer_words nodes words are.i are.r l (front_cut words are.i are.r are.spelled (node_lacks 32 (omega arith) nodes are.i node are.is_node)) is in
    let first = one_node nodes are.i node at.node are.is_node at.is_node in
    let second = one_within 0 LAST_ROW are.r row at.row are.is_row at.is_row in
    ap (λ (n : ℕ). Offer n row) first ∙ ap (λ (n : ℕ). Offer at.node n) second ∙ sym at.is_offer

same_same : (nodes : ℕ) (words : List ℕ) (left right : ℕ) (l : MeshLine) → AreSame nodes words left right → SameLine nodes words l → Same left right ≡ l
same_same nodes words left right l are is =
    let at = same_words nodes words are.i are.j l (front_cut words are.i are.j are.spelled (node_lacks 32 (omega arith) nodes are.i left are.is_left)) is in
    let first = one_node nodes are.i left at.left are.is_left at.is_left in
    let second = one_node nodes are.j right at.right are.is_right at.is_right in
    ap (λ (n : ℕ). Same n right) first ∙ ap (λ (n : ℕ). Same at.left n) second ∙ sym at.is_same

meet_same_line : (nodes : ℕ) (words : List ℕ) (left right : ℕ) (subspace : Option (List ℕ)) (from : ℕ) (l : MeshLine)
    → AreMeet nodes words left right subspace from → IsLine nodes (codes "meet " ++ words) l → Meet left right subspace from ≡ l
meet_same_line nodes words left right subspace from l are is =
    let rest = are.x ++ 32 ∷ are.t in
    let first = front_cut words are.i (are.j ++ 32 ∷ rest) are.spelled (node_lacks 32 (omega arith) nodes are.i left are.is_left) in
    let second = front_cut (are.j ++ 32 ∷ rest) are.j rest refl (node_lacks 32 (omega arith) nodes are.j right are.is_right) in
    let third = front_cut rest are.x are.t refl (subspace_lacks 32 refl (any_lacks 32 (omega arith)) are.x subspace are.is_subspace) in
    let at = meeting nodes words are.i (are.j ++ 32 ∷ rest) are.j rest first second l is in
    let lefts = one_node nodes are.i left at.left are.is_left (left_is nodes words are.i (are.j ++ 32 ∷ rest) are.j rest first second l is) in
    let rights = one_node nodes are.j right at.right are.is_right (right_is nodes words are.i (are.j ++ 32 ∷ rest) are.j rest first second l is) in
    let subspaces = one_subspace are.x subspace at.subspace are.is_subspace (subspace_is nodes words are.i (are.j ++ 32 ∷ rest) are.j rest first second l is are.x are.t third) in
    let froms = one_number are.t from at.from are.is_from (from_is nodes words are.i (are.j ++ 32 ∷ rest) are.j rest first second l is are.x are.t third) in
    ap (λ (n : ℕ). Meet n right subspace from) lefts ∙ ap (λ (n : ℕ). Meet at.left n subspace from) rights
    ∙ ap (λ (s : Option (List ℕ)). Meet at.left at.right s from) subspaces ∙ ap (λ (n : ℕ). Meet at.left at.right at.subspace n) froms ∙ sym at.is_meet

-- a line spells one thing
pub one_line : (nodes : ℕ) (line : List ℕ) (k l : MeshLine) → IsLine nodes line k → IsLine nodes line l → k ≡ l
one_line nodes line (Offer node row) l p q =
    offer_same nodes p.0 node row l p.2 (offers nodes p.0 l (subst (λ (w : List ℕ). IsLine nodes w l) p.1 q))
one_line nodes line (Same left right) l p q =
    same_same nodes p.0 left right l p.2 (sames nodes p.0 l (subst (λ (w : List ℕ). IsLine nodes w l) p.1 q))
one_line nodes line (Meet left right subspace from) l p q =
    meet_same_line nodes p.0 left right subspace from l p.2 (subst (λ (w : List ℕ). IsLine nodes w l) p.1 q)

-- so does the first
pub one_first : (line : List ℕ) (n m : ℕ) → IsFirstLine line n → IsFirstLine line m → n ≡ m
one_first line n m p q =
    let same = behind_nodes p.n q.n (sym p.spelled ∙ q.spelled) in
    one_within 1 MOST_NODES p.n n m p.number (subst (λ (w : List ℕ). IsNumberWithin 1 MOST_NODES w m) (sym same) q.number)

-- ---- no newline

space_lacks : (a b : List ℕ) → Lacks 10 a → Lacks 10 b → Lacks 10 (a ++ 32 ∷ b)
space_lacks a b la lb = lacks_both 10 a (32 ∷ b) la ((λ same. absurd (omega (arith, same))), lb)

low : 10 < 48
low = omega arith

offer_lacks : (nodes : ℕ) (words : List ℕ) (node row : ℕ) → AreOffer nodes words node row → Lacks 10 words
offer_lacks nodes words node row are =
    subst (λ (w : List ℕ). Lacks 10 w) (sym are.spelled) (space_lacks are.i are.r (node_lacks 10 low nodes are.i node are.is_node) (number_lacks 10 low are.r row are.is_row.number))

same_lacks : (nodes : ℕ) (words : List ℕ) (left right : ℕ) → AreSame nodes words left right → Lacks 10 words
same_lacks nodes words left right are =
    subst (λ (w : List ℕ). Lacks 10 w) (sym are.spelled) (space_lacks are.i are.j (node_lacks 10 low nodes are.i left are.is_left) (node_lacks 10 low nodes are.j right are.is_right))

meet_lacks : (nodes : ℕ) (words : List ℕ) (left right : ℕ) (subspace : Option (List ℕ)) (from : ℕ) → AreMeet nodes words left right subspace from → Lacks 10 words
meet_lacks nodes words left right subspace from are =
    subst (λ (w : List ℕ). Lacks 10 w) (sym are.spelled)
    (space_lacks are.i (are.j ++ 32 ∷ (are.x ++ 32 ∷ are.t)) (node_lacks 10 low nodes are.i left are.is_left)
    (space_lacks are.j (are.x ++ 32 ∷ are.t) (node_lacks 10 low nodes are.j right are.is_right)
    (space_lacks are.x are.t (subspace_lacks 10 refl (any_lacks 10 low) are.x subspace are.is_subspace) (number_lacks 10 low are.t from are.is_from))))

pub line_lacks : (nodes : ℕ) (line : List ℕ) (l : MeshLine) → IsLine nodes line l → Lacks 10 line
line_lacks nodes line (Offer node row) p =
    subst (λ (w : List ℕ). Lacks 10 w) (sym p.1) (space_lacks (codes "offer") p.0 (offer_word 10 low) (offer_lacks nodes p.0 node row p.2))
line_lacks nodes line (Same left right) p =
    subst (λ (w : List ℕ). Lacks 10 w) (sym p.1) (space_lacks (codes "same") p.0 (same_word 10 low) (same_lacks nodes p.0 left right p.2))
line_lacks nodes line (Meet left right subspace from) p =
    subst (λ (w : List ℕ). Lacks 10 w) (sym p.1) (space_lacks (codes "meet") p.0 (meet_word 10 low) (meet_lacks nodes p.0 left right subspace from p.2))

pub first_lacks : (line : List ℕ) (n : ℕ) → IsFirstLine line n → Lacks 10 line
first_lacks line n p =
    subst (λ (w : List ℕ). Lacks 10 w) (sym p.spelled) (space_lacks (codes "nodes") p.n (nodes_word 10 low) (number_lacks 10 low p.n n p.number.number))
