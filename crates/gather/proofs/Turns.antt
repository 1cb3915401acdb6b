-- What the loop over the next places of x keeps.
use Rattle.std.proofs.Common.{◌≡◌, ℕ, ◌<◌, ◌≤◌, ◌⊎◌, List, length, get_or, sym, subst}
use Rattle.gather.specs.Reach.{Step}
use Rattle.gather.specs.declared.visit.Visit.TheVariants.{Unseen, Done}
use Rattle.gather.specs.Stack.{Snapshot, visit, at, top, Sound, TakenIn, Settled, Kept}

module _ {M : Type 0} (none : M) (op : M → M → M) (targets : ℕ → List ℕ) (seeds : List M) where
  -- The place x stands at height h of the stack, and the first k of its next places are taken in; s₀ is as it was before the walk from x.
  pub record Turn (s₀ s : Snapshot M) (x h k : ℕ) : Type 0 where
    pub sound : Sound none op targets seeds s
    pub fresh : visit s₀ x ≡ Unseen
    pub in_x : x < length seeds
    pub there : h < (top s)
    pub is : at s h ≡ x
    pub settled : (a : ℕ) → h < a → a < top s → Settled none op targets seeds s x a
    pub taken : (q t : ℕ) → q < k → q < length (targets x) → get_or (targets x) q 0 ≡ t → t < length seeds → TakenIn none op targets seeds s x t
    pub kept : Kept none op targets seeds s₀ s h

  -- The same where t, the next in turn, has been seen by now, and what stands on the stack from mid on was seen from t.
  pub record Joint (s₀ s : Snapshot M) (x h k mid t : ℕ) : Type 0 where
    pub sound : Sound none op targets seeds s
    pub fresh : visit s₀ x ≡ Unseen
    pub in_x : x < length seeds
    pub there : h < (top s)
    pub is : at s h ≡ x
    pub hop : Step (length seeds) targets x t
    pub settled : (a : ℕ) → h < a → a < mid → Settled none op targets seeds s x a
    pub more : (a : ℕ) → mid ≤ a → a < top s → Settled none op targets seeds s t a
    pub taken : (q t : ℕ) → q < k → q < length (targets x) → get_or (targets x) q 0 ≡ t → t < length seeds → TakenIn none op targets seeds s x t
    pub kept : Kept none op targets seeds s₀ s h
    pub seen : (visit s t ≡ Done) ⊎ ((b : ℕ) × (b < top s) × (at s b ≡ t))

  -- The same walk, one step on.
  pub turn_as : {s₀ s s' : Snapshot M} {x h k k' : ℕ} → s' ≡ s → k' ≡ k → Turn s₀ s x h k → Turn s₀ s' x h k'
  turn_as {s₀} {s} {s'} {x} {h} {k} {k'} e f u = subst (λ n. Turn s₀ s' x h n) (sym f) (subst (λ z. Turn s₀ z x h k) (sym e) u)

  pub joint_as : {s₀ s s' : Snapshot M} {x h k mid t : ℕ} → s' ≡ s → Joint s₀ s x h k mid t → Joint s₀ s' x h k mid t
  joint_as {s₀} {s} {s'} {x} {h} {k} {mid} {t} e = subst (λ z. Joint s₀ z x h k mid t) (sym e)
