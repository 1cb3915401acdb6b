-- A buffer whose front grows by what is read behind it.
use Rattle.std.proofs.Common.{◌≡◌, ℕ, ◌+◌, ◌≤◌, List, Option, ◌++◌, length, take, ap, sym, ◌∙◌, subst, length-take-le, arith, Result, Ok, Err}
use Rattle.std.specs.Io.KnownBytes.{Consumes}
use Rattle.std.specs.Prelude.{IsErr}
use Rattle.std.specs.declared.vec.Vec.{Vec}
use Rattle.console.specs.Fill.{ConsumesFront, TextRead}
use Rattle.std.proofs.KnownBytes.{Consumes-trans}
use borrow.Rule.Slice.PartMut.{put_mid, post_of}
use lib.Seq.{take-append-le, take-append-add}

take_read : (a k n : ℕ) (xs ys : List ℕ) → a ≤ length xs → n ≤ length ys → take (a + n) (put_mid a k xs ys) ≡ take a xs ++ take n ys
take_read a k n xs ys within fits =
    let front = take a xs in
    let rest = ys ++ post_of a k xs in
    ap (λ m. take (m + n) (front ++ rest)) (sym (length-take-le a xs within)) ∙ take-append-add front rest n ∙ ap (λ l. front ++ l) (take-append-le n ys (post_of a k xs) fits)

-- the front was taken from the source, and so were n bytes behind it
pub consumes_more : (old mid new : Option (List ℕ)) (a k n : ℕ) (xs ys : List ℕ) → Consumes old mid (take a xs) → Consumes mid new (take n ys) → a ≤ length xs → n ≤ length ys
    → Consumes old new (take (a + n) (put_mid a k xs ys))
consumes_more old mid new a k n xs ys first second within fits = subst (Consumes old new) (sym (take_read a k n xs ys within fits)) (Consumes-trans old mid new _ _ first second)

-- a buffer that may hold one byte more than a text, in front of an error
pub text_unread : {A E : Type 0} (most : ℕ) (old new : Option (List ℕ)) (buffer : List ℕ) (result : Result (Option (Vec ℕ A)) E) → IsErr result → ConsumesFront old new buffer → length buffer ≡ most + 1
    → TextRead most old new result
text_unread most old new buffer (Ok _) bad front long = cc
text_unread most old new buffer (Err _) bad front long = (take front.0 buffer, rw (length-take-le front.0 buffer front.1) (omega (arith, front.1, long)), front.2)
