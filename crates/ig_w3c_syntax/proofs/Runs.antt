-- The longest front of a kind of characters, and what stands behind it.
use Rattle.std.proofs.Common.{◌≡◌, ◌∙◌, ℕ, suc, ◌<◌, ◌≤◌, List, [], ◌∷◌, ◌++◌, Bool, true, false, cond, not, ◌&&◌, length, refl, ap, sym, arith, append-nil}
use Rattle.std.proofs.lemmas.Bool.{and_parts}
use Rattle.std.specs.List.{list_all}
use Rattle.unicode_ident.specs.Ident.{is_xid_start, is_xid_continue}
use Rattle.unicode_ident.proofs.IdentLemmas.{is_xid_start-is_xid_continue}
use Rattle.ig_text.specs.Class.{is_in_class}
use Rattle.ig_text.specs.declared.class.Class.TheVariants.{XidContinue}
use Rattle.ig_grammar.specs.Name.{is_name, is_identifier, is_keyword}
use Rattle.ig_notation_syntax.specs.Spelling.{begins}
use Rattle.ig_w3c_syntax.specs.Spelling.{run, past}

pub all_run : (p : ℕ → Bool) (cs : List ℕ) → list_all p (run p cs) ≡ true
all_run p [] = refl
all_run p (c ∷ cs) =
    (elim (p c) as (λ v. p c ≡ v → list_all p (cond v (c ∷ run p cs) []) ≡ true) [
      | true ↦ λ e. rw e (all_run p cs)
      | false ↦ λ e. refl
    ])
    refl

pub past_begins : (p : ℕ → Bool) (cs : List ℕ) → begins p (past p cs) ≡ false
past_begins p [] = refl
past_begins p (c ∷ cs) =
    (elim (p c) as (λ v. p c ≡ v → begins p (cond v (past p cs) (c ∷ cs)) ≡ false) [
      | true ↦ λ e. past_begins p cs
      | false ↦ λ e. e
    ])
    refl

pub run_front : (p : ℕ → Bool) (a b : List ℕ) → list_all p a ≡ true → run p (a ++ b) ≡ a ++ run p b
run_front p [] b h = refl
run_front p (c ∷ cs) b h =
    let k = and_parts (p c) (list_all p cs) h in rw k.0 (ap (λ (z : List ℕ). c ∷ z) (run_front p cs b k.1))

pub past_front : (p : ℕ → Bool) (a b : List ℕ) → list_all p a ≡ true → past p (a ++ b) ≡ past p b
past_front p [] b h = refl
past_front p (c ∷ cs) b h = let k = and_parts (p c) (list_all p cs) h in rw k.0 (past_front p cs b k.1)

pub run_none : (p : ℕ → Bool) (cs : List ℕ) → begins p cs ≡ false → run p cs ≡ []
run_none p [] h = refl
run_none p (c ∷ cs) h = rw h refl

pub past_none : (p : ℕ → Bool) (cs : List ℕ) → begins p cs ≡ false → past p cs ≡ cs
past_none p [] h = refl
past_none p (c ∷ cs) h = rw h refl

-- where such characters stand and then others, they are the front
pub front_is : (p : ℕ → Bool) (text a b : List ℕ) → text ≡ a ++ b → list_all p a ≡ true → begins p b ≡ false → (a ≡ run p text) × (b ≡ past p text)
front_is p text a b e h k = (
  sym (ap (run p) e ∙ run_front p a b h ∙ ap (λ (z : List ℕ). a ++ z) (run_none p b k) ∙ append-nil a),
  sym (ap (past p) e ∙ past_front p a b h ∙ past_none p b k),
)

goes_on : (cs : List ℕ) → list_all (is_in_class XidContinue) cs ≡ list_all is_xid_continue cs
goes_on [] = refl
goes_on (c ∷ cs) = ap (λ z. is_xid_continue c && z) (goes_on cs)

-- each character of a name may go on with it
pub name_all : (cs : List ℕ) → is_name cs ≡ true → list_all is_xid_continue cs ≡ true
name_all [] h = refl
name_all (c ∷ cs) h =
    let i = (and_parts (is_identifier (c ∷ cs)) (not (is_keyword (c ∷ cs))) h).0 in
    let p = and_parts (is_xid_start c) (list_all (is_in_class XidContinue) cs) i in
    let k : list_all is_xid_continue cs ≡ true = sym (goes_on cs) ∙ p.1 in
    rw (is_xid_start-is_xid_continue c p.0, k) refl

-- a run of a word that begins as a name is an identifier
pub run_identifier : (c : ℕ) (cs : List ℕ) → is_xid_start c ≡ true → is_identifier (run is_xid_continue (c ∷ cs)) ≡ true
run_identifier c cs h =
    let k : is_xid_continue c ≡ true = is_xid_start-is_xid_continue c h in
    let g : list_all (is_in_class XidContinue) (run is_xid_continue cs) ≡ true = goes_on (run is_xid_continue cs) ∙ all_run is_xid_continue cs in
    rw (k, h, g) refl
