-- A page: what it holds, what is free, and how it grows.
use Rattle.std.specs.Prelude.{◌≡◌, ℕ, ◌+◌, ◌-◌, ◌*◌, ◌/◌, ◌≤◌, min, List, [], length, take}
use Rattle.std.specs.List.{flat_map}
use Rattle.std.proofs.Math.Seq.{paste}
use Rattle.std.specs.Borrow.{MutBor}
use Rattle.book.specs.declared.page.Page.{Page}
use Rattle.book.specs.Forms.{Form, read}

module _ {C : Type 0} {width : ℕ} where
  -- How many numbers the memory takes in all: one for each `width` cells, 65,536 at most.
  abbrev pub capacity_of : Page C width → ℕ
  capacity_of p = min (length p.memory.now / width) 65536

  -- How many numbers the page holds: as many as were put, and no more than it takes in all.
  abbrev pub held_by : Page C width → ℕ
  held_by p = min p.used (capacity_of p)

  -- How many more it takes.
  abbrev pub free_of : Page C width → ℕ
  free_of p = capacity_of p - held_by p

  -- The cells of the numbers that it holds: the first of its memory.
  abbrev pub cells_of : Page C width → List C
  cells_of p = take (width * held_by p) p.memory.now

  -- The numbers that it holds: those that its first cells show.
  abbrev pub list_of : Form C width → Page C width → List ℕ
  list_of f p = read f (held_by p) p.memory.now

  -- The page q is p with numbers added: in the same memory, written behind those held, and every other cell as it was.
  pub record Grows (f : Form C width) (p : Page C width) (ns : List ℕ) (q : Page C width) : Type 0 where
    pub same : q.memory.ghost_name ≡ p.memory.ghost_name
    pub fits : width * (held_by p + length ns) ≤ length p.memory.now
    pub count : held_by q ≡ held_by p + length ns
    pub cells : q.memory.now ≡ paste p.memory.now (width * held_by p) (flat_map f.cells ns) (width * length ns)

  -- The page is empty in this memory, which is as it was; each `width` cells are free for a number, to 65,536.
  pub record Opened (f : Form C width) (memory : MutBor (List C)) (p : Page C width) : Type 0 where
    pub same : p.memory.ghost_name ≡ memory.ghost_name
    pub kept : p.memory.now ≡ memory.now
    pub none : list_of f p ≡ []
    pub free : free_of p ≡ min (length memory.now / width) 65536

  -- The cells are those of just the numbers put, on a page that was empty at first.
  abbrev pub AsPut : Form C width → List C → Page C width → Type 0
  AsPut f cells p = (first : Page C width) (ns : List ℕ) → list_of f first ≡ [] → Grows f first ns p → cells ≡ flat_map f.cells ns
