use Rattle.std.proofs.Common.{sym, ap, ◌∙◌, ◌∷◌, [], ◌++◌, length, arith}
use Rattle.ig_arena.specs.Filled.{Filled}
use Rattle.ig_arena.proofs.Filling.{joined_length, spare_left, has_room, filled_then, within_then, few_then, joined_then}
use Rattle.ig_arena.proofs.arena.Arena.push_reserved.Goals as goal

pub index_mut-requires : goal.index_mut-requires
index_mut-requires g c = let room = spare_left _ _ _ c.self.view_is c.requires in omega (arith, room)

pub overflow_add-self : goal.overflow_add-self
overflow_add-self g c = let i = c.self.invariant in let room = spare_left _ _ _ c.self.view_is c.requires in omega (arith, room, i.2)

pub overflow_cast-count : goal.overflow_cast-count
overflow_cast-count g c = let i = c.self.invariant in let room = spare_left _ _ _ c.self.view_is c.requires in omega (arith, room, i.2)

pub add-requires : goal.add-requires
add-requires g c =
    let i = c.self.invariant in
    has_room _ _ i.0 i.2 (spare_left _ _ _ c.self.view_is c.requires) _ c.index_mut.ensures.value

pub invariant_of-self : goal.invariant_of-self
invariant_of-self g c =
    let i = c.self.invariant in let room = spare_left _ _ _ c.self.view_is c.requires in
    let read = c.index_mut.ensures.value in (
      filled_then _ _ i.0 i.2 room _ read _ _ c.add.ensures,
      within_then _ _ i.0 i.2 room _ read _ _ c.add.ensures,
      few_then _ _ i.0 i.2 room _ read _ _ c.add.ensures,
    )

pub returns-clause-values : goal.returns-clause-values
returns-clause-values g c =
    let i = c.self.invariant in
    joined_then _ _ i.0 i.2 (spare_left _ _ _ c.self.view_is c.requires) _ c.index_mut.ensures.value _ _ c.add.ensures ∙
    ap (λ (a : Filled _). a.values ++ c.args.value ∷ []) c.self.view_is

pub returns-clause-id : goal.returns-clause-id
returns-clause-id g c =
    c.of.ensures ∙ sym (joined_length _ _ c.self.invariant.0) ∙ ap (λ (a : Filled _). length a.values) c.self.view_is

pub returns-clause-few : goal.returns-clause-few
returns-clause-few g c = let room = spare_left _ _ _ c.self.view_is c.requires in omega (arith, c.of.ensures, room, c.self.invariant.2)
