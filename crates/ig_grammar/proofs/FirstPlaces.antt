-- The first places of names in a list that grows, and in its table.
use Rattle.std.proofs.Common.{◌≡◌, ℕ, ◌<◌, ◌+◌, List, Some, true, false, ◌∙◌, length, take, get_or}
use Rattle.std.specs.Prelude.{is_some}
use Rattle.std.specs.HashMap as hash
use Rattle.std.proofs.lemmas.Map.Text.{hash_map_updates_str}
use denote.Ref.{Bor}
use Rattle.indexmap.specs.IndexMap.{IndexMap, get_by}
use Rattle.ig_text.specs.Words.{is_word}
use Rattle.ig_text.proofs.WordPlaces.{place_kept, place_grown}
use Rattle.ig_grammar.specs.declared.declaration.Decl.{Decl}
use Rattle.ig_grammar.specs.Tables.{HasPlaces}

-- a name that has a place keeps it
pub places_kept : {S : Type 0} (table : IndexMap (Bor (List ℕ)) ℕ S) (ds : List Decl) (i : ℕ) (d : Decl) (word : List ℕ) →
    i < length ds → d ≡ get_or ds i d → word ≡ d.name → HasPlaces table (take i ds) →
    is_some (get_by (λ key. is_word word key.now) table) ≡ true → HasPlaces table (take (i + 1) ds)
places_kept table ds i d word l e w h n =
    place_kept (λ (z : Decl). z.name) ds i d word l e w (λ name. get_by (λ key. is_word name key.now) table) h n

-- a new name gets its place
pub places_grown : {S : Type 0} (old new : IndexMap (Bor (List ℕ)) ℕ S) (ds : List Decl) (i : ℕ) (d : Decl) (word : List ℕ) →
    i < length ds → d ≡ get_or ds i d → word ≡ d.name → HasPlaces old (take i ds) →
    is_some (get_by (λ key. is_word word key.now) old) ≡ false →
    hash.UpdatesBy (λ x y. is_word x.now y.now) (λ key. is_word word key.now) old new (Some i) → HasPlaces new (take (i + 1) ds)
places_grown old new ds i d word l e w h n u = λ name.
    hash_map_updates_str word old new (Some i) u name ∙
    place_grown (λ (z : Decl). z.name) ds i d word l e w (λ name. get_by (λ key. is_word name key.now) old) h n name
