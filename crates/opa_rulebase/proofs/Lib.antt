mod RuledLaws
mod LoadLaws
