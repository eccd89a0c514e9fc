-- Lemmas on what is written part by part.
use Rattle.std.proofs.Common.{ℕ, ◌+◌, ◌-◌, List, ◌++◌, length, take, drop, Option, None, Some, sym, ap, ◌∙◌, append_assoc}
use Rattle.std.proofs.Math.Seq.{take-add}
use Rattle.std.proofs.lemmas.List.{take_rest}
use Rattle.std.specs.Io.KnownBytes.{Appends}

-- after the first `at` bytes of the piece, n bytes of its others were written
pub writes_more : (a b c : Option (List ℕ)) (piece : List ℕ) (at n : ℕ) → Appends a b (take at piece) →
    Appends b c (take n (take (length piece - at) (drop at piece))) → Appends a c (take (at + n) piece)
writes_more None b c piece at n before part = tt
writes_more (Some xs) None c piece at n before part = absurd before
writes_more (Some xs) (Some ys) None piece at n before part = absurd part
writes_more (Some xs) (Some ys) (Some zs) piece at n before part =
    part ∙ ap (λ l. l ++ take n (take (length piece - at) (drop at piece))) before
    ∙ append_assoc xs (take at piece) _ ∙ ap (λ l. xs ++ (take at piece ++ take n l)) (take_rest piece at)
    ∙ ap (λ l. xs ++ l) (sym (take-add at n piece))
