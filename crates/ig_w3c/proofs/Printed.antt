-- A printed text has the tokens of its grammar.
use Rattle.std.proofs.Common.{◌≡◌, ◌≢◌, ◌∙◌, ap, sym, subst, ℕ, ◌+◌, ◌<◌, List, [], ◌∷◌, ◌++◌, Bool, true, false, not, ◌&&◌, ◌||◌, ◌==◌, if◌then◌else◌, Some, refl, map, arith, append_assoc, append-nil, lit<}
use Rattle.std.specs.Prelude.{nat_le, flat_map}
use Rattle.std.specs.List.{list_all}
use Rattle.std.specs.Char.{is_ascii_alphabetic}
use Rattle.std.proofs.lemmas.Bool.{and_parts}
use Rattle.std.proofs.lemmas.Bool.Decides.{nat_tests}
use Rattle.unicode_ident.specs.Ident.{is_xid_start, is_xid_continue}
use Rattle.unicode_ident.proofs.IdentLemmas.{is_xid_start-ascii, is_xid_continue-ascii}
use Rattle.ig_grammar.specs.Name.{is_name, is_identifier, is_keyword}
use Rattle.ig_notation_syntax.specs.Spelling.{is_one_of, begins, blanks}
use Rattle.ig_notation_syntax.specs.Texts.{bytes, IsLongest, Lexes, nothing, a_separator, a_token}
use Rattle.ig_w3c_syntax.specs.Token.{Token, Head, Name, Text, Code, OneOf}
use Rattle.ig_w3c_syntax.specs.TokenForms.{IsString}
use Rattle.ig_w3c_syntax.specs.Spelling as spelling
use Rattle.ig_w3c_syntax.specs.Spelling.{StandsFirst, IsSeparator, AreSeparators, no_separator, next_separator, blank, comment, is_inside, is_hexadecimal, is_character, quotes}
use Rattle.ig_w3c_syntax.specs.TokenLaws.{FrontsAreRuns, EndsThere, StandingTokensAreLongest}
use Rattle.ig_w3c_syntax.specs.RuleForms as form
use Rattle.ig_w3c.specs.Text.{has_quote, between, quoted, is_printed, character_text, literal_text, code_text}
use Rattle.ig_w3c.proofs.Digits.{code_stands}
use Rattle.ig_w3c.proofs.Shown.{literal_token}

-- the text has these tokens, wherever it begins
pub record LexedAs (text : List ℕ) (ts : List Token) : Type 0 where
  pub lexed : (at : ℕ) → (placed : List (Token × ℕ)) × Lexes StandsFirst IsSeparator at text placed × (map (λ p. p.0) placed ≡ ts)

pub none_lexed : LexedAs [] []
none_lexed = record { lexed = λ at. ([], nothing at [] refl, refl) }

pub blank_lexed : (c : ℕ) (rest : List ℕ) (ts : List Token) → is_one_of blanks c ≡ true → LexedAs rest ts → LexedAs (c ∷ rest) ts
blank_lexed c rest ts e h = record {
  lexed = λ at.
      let l = h.lexed (at + bytes (c ∷ [])) in
      (l.0, a_separator at (at + bytes (c ∷ [])) (c ∷ rest) (c ∷ []) rest l.0 (blank c rest e) refl refl l.1, l.2);
}

-- behind a token; a name ends there
pub record Ends (rest : List ℕ) : Type 0 where
  pub word : begins is_xid_continue rest ≡ false
  pub digit : begins is_hexadecimal rest ≡ false
  pub head : (more : List ℕ) → AreSeparators rest (58 ∷ 58 ∷ 61 ∷ more) → ⊥

-- no `::=` stands behind what begins with such a character, nor where nothing does
abbrev pub is_fresh : ℕ → Bool
is_fresh c = not (is_one_of (58 ∷ 47 ∷ blanks) c)

abbrev pub Fresh : List ℕ → Type 0
Fresh text = begins is_fresh text ≡ true

fresh_never : {text more : List ℕ} → AreSeparators text more → (c : ℕ) (cs rest : List ℕ) → text ≡ c ∷ cs → is_fresh c ≡ true → more ≡ 58 ∷ rest → ⊥
fresh_never (no_separator text) c cs rest e h f =
    let p : c ≡ 58 = cc in let x : is_fresh 58 ≡ true = subst (λ z. is_fresh z ≡ true) p h in absurd (cc)
fresh_never (next_separator text mid more s r) c cs rest e h f = never s c cs e h
  where
    never : {text mid : List ℕ} → IsSeparator text mid → (c : ℕ) (cs : List ℕ) → text ≡ c ∷ cs → is_fresh c ≡ true → ⊥
    never (blank d mid b) c cs e h = let p : d ≡ c = cc in let q : is_one_of blanks c ≡ true = subst (λ z. is_one_of blanks z ≡ true) p b in grind (arith, nat_tests)
    never (comment inside mid b) c cs e h = let p : 47 ≡ c = cc in let q : is_fresh 47 ≡ true = subst (λ z. is_fresh z ≡ true) (sym p) h in absurd (cc)

pub fresh_ends : (text : List ℕ) → Fresh text → (more : List ℕ) → AreSeparators text (58 ∷ 58 ∷ 61 ∷ more) → ⊥
fresh_ends [] h more s = absurd (cc)
fresh_ends (c ∷ cs) h more s = fresh_never s c cs (58 ∷ 61 ∷ more) refl h refl

pub fresh_append : (text rest : List ℕ) → Fresh text → Fresh (text ++ rest)
fresh_append [] rest h = absurd (cc)
fresh_append (c ∷ cs) rest h = h

nothing_behind : {text more : List ℕ} → AreSeparators text more → (rest : List ℕ) → text ≡ [] → more ≡ 58 ∷ rest → ⊥
nothing_behind (no_separator text) rest e f = absurd (cc)
nothing_behind (next_separator text mid more s r) rest e f = never s e
  where
    never : {text mid : List ℕ} → IsSeparator text mid → text ≡ [] → ⊥
    never (blank d mid b) e = absurd (cc)
    never (comment inside mid b) e = absurd (cc)

-- what a blank stands before
abbrev pub NoHead : List ℕ → Type 0
NoHead rest = (more : List ℕ) → AreSeparators rest (58 ∷ 58 ∷ 61 ∷ more) → ⊥

pub none_heads : NoHead []
none_heads more s = nothing_behind s (58 ∷ 61 ∷ more) refl refl

past_blank : {text more : List ℕ} → AreSeparators text more → (c : ℕ) (cs : List ℕ) → text ≡ c ∷ cs → is_one_of blanks c ≡ true →
    (rest : List ℕ) → more ≡ 58 ∷ rest → AreSeparators cs more
past_blank (no_separator text) c cs e b rest f =
    let p : c ≡ 58 = cc in let x : is_one_of blanks 58 ≡ true = subst (λ z. is_one_of blanks z ≡ true) p b in absurd (cc)
past_blank (next_separator text mid more s r) c cs e b rest f = behind s c cs e b r
  where
    behind : {text mid more : List ℕ} → IsSeparator text mid → (c : ℕ) (cs : List ℕ) → text ≡ c ∷ cs → is_one_of blanks c ≡ true → AreSeparators mid more → AreSeparators cs more
    behind {text} {mid} {more} (blank d rest h) c cs e b r = let p : rest ≡ cs = cc in subst (λ z. AreSeparators z more) p r
    behind (comment inside rest h) c cs e b r =
        let p : 47 ≡ c = cc in let x : is_one_of blanks 47 ≡ true = subst (λ z. is_one_of blanks z ≡ true) (sym p) b in absurd (cc)

pub blank_heads : (c : ℕ) (rest : List ℕ) → is_one_of blanks c ≡ true → NoHead rest → NoHead (c ∷ rest)
blank_heads c rest b n more s = n more (past_blank s c rest refl b (58 ∷ 61 ∷ more) refl)

-- a blank ends a token, and so does a sign
pub space_ends : (rest : List ℕ) → NoHead rest → Ends (32 ∷ rest)
space_ends rest n = record { word = is_xid_continue-ascii 32 (lit< tt); digit = refl; head = blank_heads 32 rest refl n }

pub line_ends : (rest : List ℕ) → NoHead rest → Ends (10 ∷ rest)
line_ends rest n = record { word = is_xid_continue-ascii 10 (lit< tt); digit = refl; head = blank_heads 10 rest refl n }

pub question_ends : (rest : List ℕ) → Ends (63 ∷ rest)
question_ends rest = record { word = is_xid_continue-ascii 63 (lit< tt); digit = refl; head = fresh_ends (63 ∷ rest) refl }

pub star_ends : (rest : List ℕ) → Ends (42 ∷ rest)
star_ends rest = record { word = is_xid_continue-ascii 42 (lit< tt); digit = refl; head = fresh_ends (42 ∷ rest) refl }

pub plus_ends : (rest : List ℕ) → Ends (43 ∷ rest)
plus_ends rest = record { word = is_xid_continue-ascii 43 (lit< tt); digit = refl; head = fresh_ends (43 ∷ rest) refl }

pub close_ends : (rest : List ℕ) → Ends (41 ∷ rest)
close_ends rest = record { word = is_xid_continue-ascii 41 (lit< tt); digit = refl; head = fresh_ends (41 ∷ rest) refl }

-- names begin with letters
letter_fresh : (c : ℕ) → is_xid_start c ≡ true → is_fresh c ≡ true
letter_fresh c h = by_test (is_one_of (58 ∷ 47 ∷ blanks) c) refl
  where
    by_test : (b : Bool) → is_one_of (58 ∷ 47 ∷ blanks) c ≡ b → not (is_one_of (58 ∷ 47 ∷ blanks) c) ≡ true
    by_test false e = rw e refl
    by_test true e =
        let n : c < 128 = grind (arith, nat_tests) in
        let a : is_ascii_alphabetic c ≡ false = grind (arith, nat_tests) in
        let x : true ≡ false = sym h ∙ is_xid_start-ascii c n ∙ a in absurd (cc)

pub name_fresh : (x : List ℕ) → is_name x ≡ true → Fresh x
name_fresh [] n = absurd (cc)
name_fresh (c ∷ cs) n =
    let i = (and_parts (is_identifier (c ∷ cs)) (not (is_keyword (c ∷ cs))) n).0 in letter_fresh c (and_parts (is_xid_start c) _ i).0

-- strings: the quote isn't inside
one_inside : (s c : ℕ) → is_inside s c ≡ true → (c == 34) ≡ false → is_inside 34 c ≡ true
one_inside s c h e = grind (arith, nat_tests)

double_inside : (s : ℕ) (word : List ℕ) → list_all (is_inside s) word ≡ true → has_quote word ≡ false → list_all (is_inside 34) word ≡ true
double_inside s [] h e = refl
double_inside s (c ∷ word) h e =
    let p = and_parts (is_inside s c) (list_all (is_inside s) word) h in
    let q = neither (c == 34) (has_quote word) e in (rw (one_inside s c p.0 q.0, double_inside s word p.1 q.1) refl)
  where
    neither : (a b : Bool) → (a || b) ≡ false → (a ≡ false) × (b ≡ false)
    neither false b e = (refl, e)
    neither true b e = absurd (cc)

no_quote : (word : List ℕ) → list_all (is_inside 34) word ≡ true → has_quote word ≡ false
no_quote [] h = refl
no_quote (c ∷ word) h =
    let p = and_parts (is_inside 34 c) (list_all (is_inside 34) word) h in
    let x : (c == 34) ≡ false = let q = p.0 in grind (arith, nat_tests) in rw (x, no_quote word p.1) refl

single_by : (s : ℕ) (word : List ℕ) → is_one_of quotes s ≡ true → list_all (is_inside s) word ≡ true → has_quote word ≡ true →
    list_all (is_inside 39) word ≡ true
single_by s word q h e = by_test (s == 34) refl
  where
    by_test : (b : Bool) → (s == 34) ≡ b → list_all (is_inside 39) word ≡ true
    by_test true f =
        let k : s ≡ 34 = grind (arith, nat_tests) in
        let x : true ≡ false = sym e ∙ no_quote word (subst (λ z. list_all (is_inside z) word ≡ true) k h) in absurd (cc)
    by_test false f = let k : s ≡ 39 = grind (arith, nat_tests) in subst (λ z. list_all (is_inside z) word ≡ true) k h

between_stands : (q : ℕ) (word rest : List ℕ) → is_one_of quotes q ≡ true → list_all (is_inside q) word ≡ true → word ≢ [] →
    StandsFirst (between q word ++ rest) (Text word) rest
between_stands q [] rest k h n = absurd (n refl)
between_stands q (c ∷ cs) rest k h n =
    spelling.string q c cs (((c ∷ cs) ++ q ∷ []) ++ rest) rest k h (append_assoc (c ∷ cs) (q ∷ []) rest)

quoted_by : (b : Bool) (word rest : List ℕ) → has_quote word ≡ b → IsString (Unit {0}) word →
    StandsFirst ((if b then between 39 word else between 34 word) ++ rest) (Text word) rest
quoted_by true word rest e s = between_stands 39 word rest refl (single_by s.quote word s.is_quote s.inside e) s.some
quoted_by false word rest e s = between_stands 34 word rest refl (double_inside s.quote word s.inside e) s.some

pub quoted_stands : (word rest : List ℕ) → IsString (Unit {0}) word → StandsFirst (quoted word ++ rest) (Text word) rest
quoted_stands word rest s = quoted_by (has_quote word) word rest refl s

quoted_fresh_by : (b : Bool) (word : List ℕ) → Fresh (if b then between 39 word else between 34 word)
quoted_fresh_by true word = refl
quoted_fresh_by false word = refl

pub quoted_fresh : (word : List ℕ) → Fresh (quoted word)
quoted_fresh word = quoted_fresh_by (has_quote word) word

-- a printed character alone is a string
alone_string : (c : ℕ) → is_printed c ≡ true → is_character c ≡ true → IsString (Unit {0}) (c ∷ [])
alone_string c p h = by_test (c == 34) refl
  where
    by_test : (b : Bool) → (c == 34) ≡ b → IsString (Unit {0}) (c ∷ [])
    by_test true e =
        record { quote = 39; is_quote = refl; inside = let x : is_inside 39 c ≡ true = grind (arith, nat_tests) in rw x refl; some = λ n. cc; characters = λ v. rw h refl }
    by_test false e =
        record { quote = 34; is_quote = refl; inside = let x : is_inside 34 c ≡ true = grind (arith, nat_tests) in rw x refl; some = λ n. cc; characters = λ v. rw h refl }

alone_character : {word : List ℕ} → form.IsLiteral word → (c : ℕ) → word ≡ c ∷ [] → is_character c ≡ true
alone_character (form.string word s) c e =
    (and_parts (is_character c) true (subst (λ z. list_all is_character z ≡ true) e (s.characters tt))).0
alone_character (form.code d h) c e = let p : d ≡ c = cc in subst (λ z. is_character z ≡ true) p h

many_string : {word : List ℕ} → form.IsLiteral word → (c d : ℕ) (cs : List ℕ) → word ≡ c ∷ d ∷ cs → IsString (Unit {0}) (c ∷ d ∷ cs)
many_string (form.string word s) c d cs e = subst (IsString (Unit {0})) e s
many_string (form.code x h) c d cs e = absurd (cc)

some_literal : {word : List ℕ} → form.IsLiteral word → word ≡ [] → ⊥
some_literal (form.string word s) e = s.some e
some_literal (form.code x h) e = absurd (cc)

module _ (runs : FrontsAreRuns) (longest : StandingTokensAreLongest) where
  pub token_lexed : (front rest : List ℕ) (t : Token) (ts : List Token) → StandsFirst (front ++ rest) t rest → EndsThere t rest →
      LexedAs rest ts → LexedAs (front ++ rest) (t ∷ ts)
  token_lexed front rest t ts s e h = record {
    lexed = λ at.
        let l = h.lexed (at + bytes front) in (
          (t, at) ∷ l.0,
          a_token at (at + bytes front) (front ++ rest) front rest t l.0 (longest (front ++ rest) rest t s e) refl refl l.1,
          ap (λ z. t ∷ z) l.2,
        );
  }

  -- a literal
  character_by : (b : Bool) (c : ℕ) (rest : List ℕ) (ts : List Token) → is_printed c ≡ b → is_character c ≡ true → Ends rest → LexedAs rest ts →
      LexedAs ((if b then quoted (c ∷ []) else code_text c) ++ rest) ((if b then Text (c ∷ []) else Code c) ∷ ts)
  character_by true c rest ts e h ends l =
      token_lexed (quoted (c ∷ [])) rest (Text (c ∷ [])) ts (quoted_stands (c ∷ []) rest (alone_string c e h)) tt l
  character_by false c rest ts e h ends l =
      token_lexed (code_text c) rest (Code c) ts (spelling.character (code_text c ++ rest) rest c (code_stands runs c rest h ends.digit).1) tt l

  pub string_lexed : (word rest : List ℕ) (ts : List Token) → IsString (Unit {0}) word → LexedAs rest ts →
      LexedAs (quoted word ++ rest) (Text word ∷ ts)
  string_lexed word rest ts s l = token_lexed (quoted word) rest (Text word) ts (quoted_stands word rest s) tt l

  pub literal_lexed : (word rest : List ℕ) (ts : List Token) → form.IsLiteral word → Ends rest → LexedAs rest ts →
      LexedAs (literal_text word ++ rest) (literal_token word ∷ ts)
  literal_lexed [] rest ts i ends l = absurd (some_literal i refl)
  literal_lexed (c ∷ []) rest ts i ends l = character_by (is_printed c) c rest ts refl (alone_character i c refl) ends l
  literal_lexed (c ∷ d ∷ word) rest ts i ends l = string_lexed (c ∷ d ∷ word) rest ts (many_string i c d word refl) l

literal_fresh_by : (b : Bool) (c : ℕ) → Fresh (if b then quoted (c ∷ []) else code_text c)
literal_fresh_by true c = quoted_fresh (c ∷ [])
literal_fresh_by false c = refl

pub literal_fresh : (word : List ℕ) → Fresh (literal_text word)
literal_fresh [] = quoted_fresh []
literal_fresh (c ∷ []) = literal_fresh_by (is_printed c) c
literal_fresh (c ∷ d ∷ word) = quoted_fresh (c ∷ d ∷ word)
