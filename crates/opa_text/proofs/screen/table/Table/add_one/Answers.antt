use Rattle.std.proofs.Common.{refl}
use Rattle.std.proofs.lemmas.Result.{on_ok_weaker}
use Rattle.opa_text.specs.declared.screen.table.Table.{Table}
use Rattle.opa_text.proofs.screen.TableLaws.{attr_put, list_put}
use Rattle.opa_text.proofs.screen.table.Table.add_one.Goals as goal

pub returns-in-Attr : goal.returns-in-Attr
returns-in-Attr c = on_ok_weaker c.put.result (λ h. attr_put c.args.self.now (let t : Table = record { attrs = c.put.new.numbers; lists = c.args.self.now.lists } in t) c.args.item.now c.in-Attr.attr c.args.number c.in-Attr.is h refl) c.put.ensures

pub returns-in-Members : goal.returns-in-Members
returns-in-Members c = on_ok_weaker c.put-in-Members.result (λ h. list_put c.args.self.now (let t : Table = record { attrs = c.args.self.now.attrs; lists = c.put-in-Members.new.numbers } in t) c.args.item.now c.in-Members.rel c.args.number c.in-Members.is h refl) c.put-in-Members.ensures
