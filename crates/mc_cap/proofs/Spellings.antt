-- A capability's spelling, taken apart.
use Rattle.std.proofs.Common.{◌≡◌, ℕ, List, ◌∷◌, ◌++◌, sym, ap, ◌∙◌, append_assoc}
use Rattle.mc_cap.specs.Forms.{capability_spelling, head_spelling, chain_spelling, initial_spelling, form_byte}
use Rattle.mc_cap.specs.declared.capability.Capability.{Capability}

group : (b : ℕ) (x y z w : List ℕ) → b ∷ (x ++ (y ++ (z ++ w))) ≡ (b ∷ (x ++ (y ++ z))) ++ w
group b x y z w = ap (λ (l : List ℕ). b ∷ l) (ap (λ (l : List ℕ). x ++ l) (sym (append_assoc y z w)) ∙ sym (append_assoc x (y ++ z) w))

pub head_and_chain : (c : Capability) → capability_spelling c ≡ head_spelling c ++ chain_spelling c.chain
unfolding capability_spelling head_spelling
head_and_chain c = group (form_byte c.mode c.initial) c.namespace c.user (initial_spelling c.initial) (chain_spelling c.chain)

-- the head and then the chain, written behind a text
pub spelled_on : (c : Capability) (before headed after : List ℕ) → headed ≡ before ++ head_spelling c → after ≡ headed ++ chain_spelling c.chain → after ≡ before ++ capability_spelling c
spelled_on c before headed after eh ea =
    ea ∙ ap (λ (l : List ℕ). l ++ chain_spelling c.chain) eh ∙ append_assoc before (head_spelling c) (chain_spelling c.chain) ∙ ap (λ (l : List ℕ). before ++ l) (sym (head_and_chain c))
