-- The laws of a join, and what is part of what.
use Rattle.std.proofs.Common.{◌≡◌, sym, ap, ◌∙◌}
use Rattle.gather.specs.Gathered.{PartOf}

pub record Lattice {M : Type 0} (op : M → M → M) : Type 0 where
  pub idem : (x : M) → op x x ≡ x
  pub comm : (x y : M) → op x y ≡ op y x
  pub assoc : (x y z : M) → op (op x y) z ≡ op x (op y z)

module _ {M : Type 0} {op : M → M → M} (laws : Lattice op) where
  pub part_trans : (x y z : M) → PartOf op x y → PartOf op y z → PartOf op x z
  part_trans x y z p q = ap (op x) (sym q) ∙ sym (laws.assoc x y z) ∙ ap (λ w. op w z) p ∙ q

  pub part_left : (x y : M) → PartOf op x (op x y)
  part_left x y = sym (laws.assoc x x y) ∙ ap (λ w. op w y) (laws.idem x)

  pub part_right : (x y : M) → PartOf op y (op x y)
  part_right x y = ap (op y) (laws.comm x y) ∙ part_left y x ∙ laws.comm y x

  pub part_both : (x y z : M) → PartOf op x z → PartOf op y z → PartOf op (op x y) z
  part_both x y z p q = laws.assoc x y z ∙ ap (op x) q ∙ p

-- Both sides are replaced by equals.
pub part_as : {M : Type 0} (op : M → M → M) (x x' y y' : M) → x' ≡ x → y' ≡ y → PartOf op x y → PartOf op x' y'
part_as op x x' y y' p q h = ap (λ w. op w y') p ∙ ap (op x) q ∙ h ∙ sym q
