-- The instance of an item is in its table.
use Rattle.std.proofs.Common.{◌≡◌, Option, Some, None, Contains, slice_get, sym, ap, ◌∙◌}
use Rattle.std.specs.Prelude.{option_map}
use Rattle.std.proofs.lemmas.Option.{get_or_from_slice_get}
use Rattle.ig_text.proofs.Lists.{get_within}
use Rattle.ig_item.specs.Items.{root_instance}
use Rattle.ig_item.specs.Tables.{AreTables, Tables, instance_of, item_of}
use Rattle.ig_item.specs.declared.items.InstanceView.{InstanceView}
use Rattle.ig_item.specs.declared.items.Item as stored

module _ (tables : Tables) (x : stored.Item) (o : Option InstanceView) (read : option_map instance_of o ≡ slice_get tables.instances x.instance) where
  pub never_missing : AreTables tables → Contains tables.items x → o ≡ None → ⊥
  never_missing are among none =
      let there = get_within tables.instances x.instance (are.instances_there x among) in
      let no : None ≡ Some there.0 = ap (option_map instance_of) (sym none) ∙ read ∙ there.1 in cc

  pub its_instance : (v : InstanceView) → o ≡ Some v → instance_of v ≡ (item_of tables x).instance
  its_instance v some =
      sym (get_or_from_slice_get tables.instances x.instance (instance_of v) root_instance
      (sym read ∙ ap (option_map instance_of) some))
