-- What the pass keeps, from the laws of what it stands on.
use Rattle.std.proofs.Common.{◌≡◌, ◌∙◌, ℕ, true, false, List, [], ◌∷◌, Some, sym, ap, subst}
use Rattle.std.specs.Prelude.{◌≢◌, Contains, slice_get}
use Rattle.std.proofs.lemmas.Option.{slice_get-map}
use Rattle.ig_text.proofs.Options.{mapped, one_value}
use Rattle.ig_text.proofs.Lists.{contains_first, contains_one, none_in_nil, unmapped_in}
use Rattle.ig_grammar.specs.Checked.{CheckedGrammar}
use Rattle.ig_grammar.specs.Condition.{declaration_of}
use Rattle.ig_grammar.specs.declared.declaration.DeclKind.TheVariants.{Syntax}
use Rattle.ig_grammar.specs.declared.declaration.Decl.{Decl}
use Rattle.ig_grammar.specs.declared.place.Shape.TheVariants.{Root}
use Rattle.ig_meaning.specs.Laws.{TreesWithoutOperatorsAreClean}
use Rattle.ig_pass.specs.Added.{left_name, right_name, AddedNamesAreNew, HasNoSign}
use Rattle.ig_pass.specs.Found.{DeclarationsAreFound}
use Rattle.ig_pass.specs.KeptByRoot.{RootAt, RootKeeps}
use Rattle.ig_pass.specs.Rooted.{rooted, has_root}
use Rattle.ig_pass.specs.SameTrees.{PermitSame, SameTreesIsAnEquivalence}
use Rattle.ig_pass.specs.SameValues.{KeepsValues}
use Rattle.ig_pass.specs.Sound.{IsSound}
use Rattle.ig_pass.specs.Unbound.{IsUnbound}
use Rattle.ig_levels.specs.Levels.{is_levelled, names_levelled, lowered_declaration, lowered_grammar, LevelsOf}
use Rattle.ig_levels.specs.Laws.{LevelsKeep}
use Rattle.ig_levels.proofs.Clearing.{clear_of}
use Rattle.ig_levels.proofs.Giving.{LawsBelow, gives, settles}
use Rattle.ig_pass.specs.Asked.{AsksElsewhere}
use Rattle.ig_pass.specs.Binders.{BindersAreCounted}
use Rattle.ig_pass.specs.Passing.{IsReadyFor, ResultsAreReady}
use Rattle.ig_levels.proofs.Permitting.{lowered_is_free, permits_same, annotates_same}
use Rattle.ig_levels.proofs.Premises.{Lowerable, lowerable, one_free}
use Rattle.ig_levels.proofs.Shaped.{lowered_fits, root_calls_kept}

-- the laws that the proof stands on
pub record Given : Type 0 where
  pub new : AddedNamesAreNew
  pub found : DeclarationsAreFound
  pub root : RootKeeps
  pub equivalence : SameTreesIsAnEquivalence
  pub cleans : TreesWithoutOperatorsAreClean
  pub elsewhere : AsksElsewhere
  pub counts : BindersAreCounted
  pub passes : ResultsAreReady

abbrev lowered : CheckedGrammar → CheckedGrammar
lowered c = record { grammar = lowered_grammar c.grammar; shapes = c.shapes }

module _ (given : Given) (c : CheckedGrammar) (sound : IsSound c) (has : has_root c.shapes ≡ true) (may : Lowerable c.grammar c.shapes) where
  at : RootAt c
  at = given.root.stands c sound.fit has

  -- the start stands for the root, so it isn't levelled
  start_plain : (name : List ℕ) (decl : Decl) → c.grammar.start ≡ Some name → declaration_of c.grammar.decls name ≡ Some decl → is_levelled decl.levels ≡ false
  start_plain name decl started found =
      let named : at.decl.name ≡ name = one_value c.grammar.start at.decl.name name at.start started in
      let same : at.decl ≡ decl =
      one_value (declaration_of c.grammar.decls name) at.decl decl
      (subst (λ z. declaration_of c.grammar.decls z ≡ Some at.decl) named (given.found.itself c.grammar.decls may.distinct at.before at.decl at.declared)) found in
      ap (λ (z : Decl). is_levelled z.levels) (sym same) ∙ one_free at.decl.levels ((sound.fit.each at.before at.decl Root at.declared at.shaped).level (λ e. cc))

  permitted_same : PermitSame c (lowered c)
  permitted_same = record { same = λ text t. permits_same c.grammar c.shapes text given.cleans may at t }

  -- what is ready for names stays so, if the bounds are none of them
  ready_still : (later : List (List ℕ)) → (Contains later left_name → ⊥) → (Contains later right_name → ⊥) → IsReadyFor later c.grammar → IsReadyFor later (lowered c).grammar
  ready_still later not_left not_right ready =
      given.passes.result later c.grammar (lowered c).grammar ready (gives laws later not_left not_right c.grammar c.shapes may plain)
      (settles laws later not_left not_right c.grammar c.shapes may plain (given.passes.settled later c.grammar ready))
    where
      laws : LawsBelow
      laws = record { new = given.new; found = given.found; elsewhere = given.elsewhere; counts = given.counts }

      plain : (k : ℕ) (d : Decl) → slice_get c.grammar.decls k ≡ Some d → c.grammar.start ≡ Some d.name → is_levelled d.levels ≡ false
      plain k d there started = start_plain d.name d started (given.found.itself c.grammar.decls may.distinct k d there)

  values_kept : KeepsValues c (lowered c)
  values_kept = record { values = λ text t u p. annotates_same c.grammar c.shapes text given.cleans may at t u }

  pub sound_still : IsSound (lowered c)
  sound_still =
      let ready = ready_still [] (λ l. none_in_nil left_name l) (λ l. none_in_nil right_name l)
      (record { scoped = sound.scoped; well = sound.well; entered = sound.entered; free = λ name l. absurd (none_in_nil name l) }) in
      record {
        scoped = ready.scoped;
        fit = lowered_fits c.grammar c.shapes may sound.fit;
        well = ready.well;
        entered = ready.entered;
        fresh = λ m. has;
        root_named = λ before lower at shaped.
            let from = mapped (lowered_declaration (names_levelled c.grammar.decls)) (slice_get c.grammar.decls before) lower
            (sym (slice_get-map (lowered_declaration (names_levelled c.grammar.decls)) c.grammar.decls before) ∙ at) in
            ap (λ (z : Decl). z.name) from.2 ∙ sound.root_named before from.0 from.1 shaped;
        root_calls = λ before lower b at shaped kind among.
            root_calls_kept c.grammar c.shapes may sound.fit before lower b at shaped
            (λ decl a declared kinds. sound.root_calls before decl a declared shaped (sym kinds ∙ kind)) among;
        unsigned = λ lower among.
            let from = unmapped_in (lowered_declaration (names_levelled c.grammar.decls)) c.grammar.decls lower among in
            subst (λ (z : Decl). HasNoSign z.name) from.2 (sound.unsigned from.0 from.1);
      }

  -- a name that is none of the bounds stays unbound
  unbound_still : (name : List ℕ) → name ≢ left_name → name ≢ right_name → IsUnbound c.grammar name → IsUnbound (lowered c).grammar name
  unbound_still name not_left not_right free =
      (ready_still (name ∷ []) (λ l. not_left (sym (contains_one name left_name l))) (λ l. not_right (sym (contains_one name right_name l)))
      (record {
        scoped = sound.scoped;
        well = sound.well;
        entered = sound.entered;
        free = λ other l. subst (IsUnbound c.grammar) (sym (contains_one name other l)) free;
      })).free name (contains_first name [])

pub levels_keep : Given → LevelsKeep
levels_keep given c sound left right =
    let to = given.root.sound c sound in
    let kept = given.root.kept c sound.fit in
    let r = rooted Syntax c in
    let may = lowerable given.found r.grammar r.shapes to.sound.scoped to.sound.fit (clear_of r.grammar (kept.unbound left_name left) (kept.unbound right_name right)) in
    record {
      same = given.equivalence.chained c r (LevelsOf c) to.same (permitted_same given r to.sound kept.has may);
      values = given.equivalence.values_chained c r (LevelsOf c) to.same to.values (values_kept given r to.sound kept.has may);
      sound = sound_still given r to.sound kept.has may;
      free = lowered_is_free r.grammar;
      unbound = λ name not_left not_right u. unbound_still given r to.sound kept.has may name not_left not_right (kept.unbound name u);
    }
