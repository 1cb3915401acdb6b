-- The stages of reading a written sheet byte by byte.
use Rattle.std.specs.Prelude.{ℕ, ◌+◌, cond, ◌&&◌, List, [], ◌∷◌, Some, None, Option, ◌==◌, nat_lt}
use Rattle.written.specs.Tokens.{blank, letter, quotable}
use Rattle.written.specs.declared.form.Stage.{Stage}
use Rattle.written.specs.declared.form.Stage.TheVariants.{Between, Head, Headed, Body, Name, Word}

-- Behind a head: a colon is to come.
abbrev pub next_headed : ℕ → Option Stage
next_headed b = cond (blank b) (Some Headed) (cond (b == 58) (Some Body) None)

-- Behind a colon: a name, a word, a bar or a semicolon is to come.
abbrev pub next_body : ℕ → Option Stage
next_body b =
    cond (blank b) (Some Body)
    (cond (letter b) (Some (Name 1))
    (cond (b == 34) (Some (Word 0))
    (cond (b == 124) (Some Body)
    (cond (b == 59) (Some Between) None))))

-- The stage behind one more byte; none where that byte cannot stand there.
abbrev pub next : Stage → ℕ → Option Stage
next Between b = cond (blank b) (Some Between) (cond (letter b) (Some (Head 1)) None)
next (Head n) b = cond (letter b) (cond (nat_lt n 24) (Some (Head (n + 1))) None) (next_headed b)
next Headed b = next_headed b
next Body b = next_body b
next (Name n) b = cond (letter b) (cond (nat_lt n 24) (Some (Name (n + 1))) None) (next_body b)
next (Word n) b = cond (b == 34) (cond (nat_lt 0 n) (Some Body) None) (cond (quotable b && nat_lt n 24) (Some (Word (n + 1))) None)

-- The same from a stage that there may be; nothing follows a fault.
abbrev pub onward : Option Stage → ℕ → Option Stage
onward None b = None
onward (Some s) b = next s b

-- The stage behind more bytes; none from the first that cannot stand there.
abbrev pub run : Option Stage → List ℕ → Option Stage
run s [] = s
run s (b ∷ bs) = run (onward s b) bs
