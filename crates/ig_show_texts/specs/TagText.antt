-- How tags print, as UTF-8.
use Rattle.std.specs.Prelude.{ℕ, List, ◌++◌, codes, encode_utf8_all}
use Rattle.std.specs.Fmt.{decimal}
use Rattle.ig_text.specs.declared.tag.Tag.{Tag}
use Rattle.ig_text.specs.declared.tag.Tag.TheVariants.{Rule, Nil, Snoc, One, More, Absent, Present, GroupAlt, Root}

-- a tag of a nonterminal of that name: `NAME.k`, alternative k of a declaration, or one of the `$` names
abbrev pub tag_text : List ℕ → Tag → List ℕ
tag_text name (Rule nonterminal k) = encode_utf8_all name ++ (codes "." ++ decimal k)
tag_text name Nil = codes "$nil"
tag_text name Snoc = codes "$snoc"
tag_text name One = codes "$one"
tag_text name More = codes "$more"
tag_text name Absent = codes "$none"
tag_text name Present = codes "$some"
tag_text name (GroupAlt k) = codes "$group." ++ decimal k
tag_text name Root = codes "$root"
