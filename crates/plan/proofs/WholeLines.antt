-- Turns made one behind another.
use Rattle.std.proofs.Common.{◌≡◌, ℕ, suc, ◌+◌, ◌<◌, ◌≤◌, List, [], ◌∷◌, ◌++◌, length, get_or, take, drop, sym, refl, ap, ◌∙◌, subst, subst₂, drop-cons}
use Rattle.std.proofs.lemmas.List.{take_more, take_all, take-append-drop}
use Rattle.book.specs.Books.{Laws}
use Rattle.tables.specs.declared.tables.Tables.{Tables}
use Rattle.tables.specs.Building.{held}
use Rattle.line.specs.Answers.{Answer, given, refused}
use Rattle.plan.specs.Turns.{SlipModel, Turn, word, judge, book, clear}
use Rattle.plan.specs.Plans.{PlanValue, SameBook}
use Rattle.plan.specs.LawKept.{KeepsLaw, LawKept}
use Rattle.plan.specs.WholeLines.{Taken, one_more, Judging, all_taken, not_taken, Withdrawing, SettlingSlip, booked, withdrawn, WholeLine}
use Rattle.plan.specs.Made.{Grown, Made}
use Rattle.plan.proofs.LawKept.{none_kept, then_kept}

module _ {B : Type 0} (list : B → List ℕ) (free : B → ℕ) (grows : B → List ℕ → B → Type 0) (laws : Laws list free grows) where
  abbrev pub MadeFrom : (List Turn → Type 0) → PlanValue B → PlanValue B → Type 0
  MadeFrom P p q = Made list free grows P p q

  abbrev pub KeepsFrom : PlanValue B → List Turn → PlanValue B → Type 0
  KeepsFrom p ts q = LawKept list free p ts q

  -- No call.
  pub made_none : (P : List Turn → Type 0) (a : PlanValue B) → P [] → MadeFrom P a a
  made_none P a p =
      record {
        turns = [];
        are = p;
        law = none_kept (held a.tables) a.model (list a.book) (free a.book);
        grown = ([], laws.stays a.book);
        tables = refl;
      }

  -- One call that leaves the book.
  pub made_turn : (P : List Turn → Type 0) (a b : PlanValue B) (t : Turn) → SameBook a b → KeepsFrom a (t ∷ []) b → P (t ∷ []) → MadeFrom P a b
  made_turn P a b t same k p =
      record {
        turns = t ∷ [];
        are = p;
        law = k;
        grown = ([], subst (grows a.book []) (sym same.1) (laws.stays a.book));
        tables = same.0;
      }

  -- More calls, by the same tables.
  pub made_then : {P Q : List Turn → Type 0} (R : List Turn → Type 0) (a b c : PlanValue B) → MadeFrom P a b → MadeFrom Q b c → ((ts us : List Turn) → P ts → Q us → R (ts ++ us)) → MadeFrom R a c
  made_then R a b c x y f =
      let on = subst (λ (t : Tables). KeepsLaw (held t) b.model (list b.book) (free b.book) y.turns c.model (list c.book) (free c.book)) x.tables y.law in
      record {
        turns = x.turns ++ y.turns;
        are = f x.turns y.turns x.are y.are;
        law = then_kept (held a.tables) a.model b.model c.model (list a.book) (list b.book) (list c.book) (free a.book) (free b.book) (free c.book) x.turns y.turns x.law on;
        grown = (x.grown.0 ++ y.grown.0, laws.joins a.book b.book c.book x.grown.0 y.grown.0 x.grown.1 y.grown.1);
        tables = y.tables ∙ x.tables;
      }

  pub made_one : (a b : PlanValue B) (t : Turn) → SameBook a b → KeepsFrom a (t ∷ []) b → MadeFrom (λ ts. ts ≡ t ∷ []) a b
  made_one a b t same k = made_turn (λ ts. ts ≡ t ∷ []) a b t same k refl

  module _ (d : ℕ) (words : List ℕ) (i : ℕ) (a b c : PlanValue B) (same : SameBook b c) (x : MadeFrom (Taken d (take i words)) a b) where
    pub taken_more : i < length words → (n : ℕ) → KeepsFrom b (word d (get_or words i 0) (given n) ∷ []) c → MadeFrom (Taken d (take (i + 1) words)) a c
    taken_more low n k =
        made_then (Taken d (take (i + 1) words)) a b c x (made_one b c (word d (get_or words i 0) (given n)) same k) λ ts us p q.
        subst₂ (Taken d) (sym (take_more words i 0 low)) (ap (λ l. ts ++ l) (sym q)) (one_more (get_or words i 0) n p)

    pub taken_refused : i < length words → (n : ℕ) → KeepsFrom b (word d (get_or words i 0) (refused n) ∷ []) c → MadeFrom (Judging d words (refused n)) a c
    taken_refused low n k =
        made_then (Judging d words (refused n)) a b c x (made_one b c (word d (get_or words i 0) (refused n)) same k) λ ts us p q.
        subst (λ l. Judging d words (refused n) (ts ++ l)) (sym q)
        (not_taken (take i words) (drop (suc i) words) (get_or words i 0) n (sym (take-append-drop i words) ∙ ap (λ l. take i words ++ l) (drop-cons words i 0 low)) p)

    pub taken_judged : length words ≤ i → (y : Answer SlipModel) → KeepsFrom b (judge d y ∷ []) c → MadeFrom (Judging d words y) a c
    taken_judged high y k =
        made_then (Judging d words y) a b c x (made_one b c (judge d y) same k) λ ts us p q.
        subst (λ l. Judging d words y (ts ++ l)) (sym q) (all_taken y (subst (λ ws. Taken d ws ts) (take_all i words high) p))

  -- A slip booked, or withdrawn behind a refused booking.
  pub settled_booked : (a b : PlanValue B) (s : SlipModel) (n : ℕ) → b.tables ≡ a.tables → Grown grows a.book b.book → KeepsFrom a (book s (given n) ∷ []) b → MadeFrom (SettlingSlip s (given n)) a b
  settled_booked a b s n e g k = record { turns = book s (given n) ∷ []; are = booked n; law = k; grown = g; tables = e }

  module _ (a b c : PlanValue B) where
    pub settled_withdrawn : (s : SlipModel) (n : ℕ) → SameBook a b → KeepsFrom a (book s (refused n) ∷ []) b → MadeFrom (Withdrawing s) b c → MadeFrom (SettlingSlip s (refused n)) a c
    settled_withdrawn s n same k x =
        made_then (SettlingSlip s (refused n)) a b c (made_one a b (book s (refused n)) same k) x λ ts us p q.
        subst₂ (λ l r. SettlingSlip s (refused n) (l ++ r)) (sym p) (sym q) (withdrawn n)

    -- The whole line.
    pub whole_settled : (d : ℕ) (words : List ℕ) (s : SlipModel) (x : Answer ℕ) → MadeFrom (Judging d words (given s)) a b → MadeFrom (SettlingSlip s x) b c → MadeFrom (WholeLine d words x) a c
    whole_settled d words s x y z = made_then (WholeLine d words x) a b c y z λ ts us p q. record { slip = given s; first = ts; second = us; judging = p; settling = q; is = refl }

    pub whole_cleared : (d : ℕ) (words : List ℕ) (n : ℕ) (y : Answer (Unit {0})) → MadeFrom (Judging d words (refused n)) a b → SameBook b c → KeepsFrom b (clear d y ∷ []) c → MadeFrom (WholeLine d words (refused n)) a c
    whole_cleared d words n y x same k =
        made_then (WholeLine d words (refused n)) a b c x (made_one b c (clear d y) same k) λ ts us p q.
        record { slip = refused n; first = ts; second = us; judging = p; settling = (y, refl, q); is = refl }
